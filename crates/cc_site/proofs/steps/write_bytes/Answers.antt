use Rattle.std.proofs.Common.{◌≡◌, ◌-◌, min, [], ◌∷◌, ◌++◌, length, take, drop, refl, ◌∙◌, ap, arith}
use Rattle.std.proofs.lemmas.Grind.{common_steps}
use Rattle.cc_site.specs.declared.steps.Step.{Step}
use Rattle.cc_site.specs.declared.steps.Change.TheVariants.{Written}
use Rattle.cc_site.specs.Record.{undo_change}
use Rattle.cc_site.proofs.Spliced.{unwritten}
use Rattle.cc_site.proofs.steps.write_bytes.Goals as goal

pub returns-clause-adds : goal.returns-clause-adds
returns-clause-adds c =
    let old = c.args.bytes.now.items in
    let change = Written c.args.place (length c.args.new.now) c.in_ok-old.old in
    let step : Step = record { side = c.args.side; told = c.args.told; length = length old; change = change } in
    let kept : c.in_ok-old.old.items ≡ take c.min-count.result (drop c.args.place old) = grind (arith, common_steps) in
    let counts : c.min-count.result ≡ min (length c.args.new.now) (length old - c.args.place) = grind (arith, common_steps) in
    let pushed : c.note.new.steps.items ≡ c.args.steps.now.items ++ step ∷ [] = grind (arith, common_steps) in
    record {
      step = step;
      side_is = refl;
      told_is = refl;
      last = pushed;
      undoes = ap (undo_change change) c.in_ok-overwrite.ensures.ok
          ∙ unwritten old c.args.new.now c.in_ok-old.old.items c.args.place c.min-count.result c.requires.place counts kept;
      marked = λ m. refl;
    }
