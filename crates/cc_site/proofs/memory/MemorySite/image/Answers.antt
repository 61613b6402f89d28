use Rattle.std.proofs.Common.{List, ℕ, IfOk, sym, subst₂}
use Rattle.std.proofs.lemmas.Result.{IfOk-weaker}
use Rattle.cc_site.specs.Memory.{memory_state}
use Rattle.cc_site.specs.Record.{file}
use Rattle.cc_site.specs.Image.{IsChosen}
use Rattle.cc_site.proofs.Images.{chosen_possible}
use Rattle.cc_site.proofs.memory.MemorySite.image.Goals as goal
use Rattle.cc_site.proofs.memory.MemorySite.image.Goals.{After-holding}

-- what was chosen is what the image holds
chosen_by : (c : After-holding)
    → IfOk c.holding.result (λ image. IsChosen c.args.choice.now (memory_state c.args.self.now) (file image.disk.a.items image.disk.b.items))
chosen_by c =
    let chosen : IsChosen c.args.choice.now (memory_state c.args.self.now) (file c.in_ok-a.a.items c.in_ok-a.b.items) =
    rw (c.deref.ensures.value, c.deref-2.ensures.value, c.deref-3.ensures.value) at c.in_ok-a.ensures in
    IfOk-weaker c.holding.result _ _ (λ image is.
    subst₂ (λ (a b : List ℕ). IsChosen c.args.choice.now (memory_state c.args.self.now) (file a b)) (sym is.0) (sym is.1) chosen) c.holding.ensures.bytes

pub returns-clause-chosen : goal.returns-clause-chosen
returns-clause-chosen c = chosen_by (goal.at.returns-clause-chosen c).After-holding

pub returns-clause-possible : goal.returns-clause-possible
returns-clause-possible c = IfOk-weaker c.holding.result _ _ (λ image is.
    chosen_possible c.args.choice.now (memory_state c.args.self.now) (file image.disk.a.items image.disk.b.items) c.args.self.now.firm_fits is)
    (chosen_by (goal.at.returns-clause-possible c).After-holding)
