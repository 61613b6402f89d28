use Rattle.std.proofs.Common.{ℕ, ◌≡◌, ◌≤◌, ◌+◌, [], ◌∷◌, ◌++◌, length, inl, inr, sym, subst, ap, ◌∙◌, arith}
use Rattle.std.specs.Prelude.{Result, Ok, Err, OnErr}
use Rattle.cc_site.specs.Sides.{written, settled, MayHaveWritten}
use Rattle.cc_node_state.specs.Sides.{OPEN, StandsBehind, SpellsBatch}
use Rattle.cc_journal.specs.Batches.{events_in, batch_bytes}
use Rattle.cc_journal.specs.Journals.{with_open_gate, record_room, KeepsGood, MayHaveOpened, RestsFor, RestsNow}
use Rattle.cc_journal.specs.contracts.journal.Journal.{the_view}
use Rattle.cc_journal.proofs.Records.{length_batch, batch_spelled}
use Rattle.cc_journal.proofs.Steps.{IsSure, still_good, gate_opens, gate_opened}
use Rattle.cc_journal.proofs.journal.Journal.append.Given.{Over}
use Rattle.cc_journal.proofs.journal.Journal.append.Goals as goal
use Rattle.cc_journal.proofs.journal.Journal.append.Goals.{After-write_durably}

pub overflow_add-self : goal.overflow_add-self
overflow_add-self g c =
    let f = c.flight.invariant in
    omega (arith, c.requires.room, ap (λ p. p.place) c.self.view_is, f.size, length_batch c.flight.inside.batch.value f.spelled)

pub returns-in_err-sync-clause-every_moment : goal.returns-in_err-sync-clause-every_moment
returns-in_err-sync-clause-every_moment g c honest standing =
    let s = g.S.Site in
    let old = c.args.site.now in
    let batch = events_in c.args.flight in
    subst (λ p. (generation : ℕ) → KeepsGood s (RestsFor s batch old p generation) batch old c.sync.new.self) c.self.view_is
    (still_good s old c.sync.new.self (the_view c.self.inside) (g.met.S.Site.only_now old honest) (c.sync.ensures.time honest) batch)

-- The first sync succeeded, whatever came of the gate.
module _ (g : Over) (c : After-write_durably g) (honest : g.S.Site.honest c.args.site.now)
    (standing : StandsBehind (g.S.Site.state c.args.site.now c.args.self.now.side).bytes c.args.self.now.place (batch_bytes c.args.flight)) where
  sure : IsSure g.S.Site c.args.site.now c.sync.new.self (the_view c.self.inside) (batch_bytes c.args.flight) (events_in c.args.flight)
  sure =
      let site = g.met.S.Site in
      let old = c.args.site.now in
      let mid = c.sync.new.self in
      record {
        only = site.only_now old honest;
        counts = site.counts_now mid (c.sync.ensures.honest.0 honest);
        time = c.sync.ensures.time honest;
        made_sure = c.in_ok-sync.ensures.value honest;
        read = site.may_read mid (c.sync.ensures.honest.0 honest);
        spelled = subst (λ b. SpellsBatch (batch_bytes b) (events_in b)) c.flight.view_is
            (batch_spelled c.flight.inside.batch.value c.flight.invariant.spelled);
        standing = subst (λ p. StandsBehind (g.S.Site.state old p.side).bytes p.place (batch_bytes c.args.flight)) (sym c.self.view_is) standing;
      }

  moments : (generation : ℕ) → KeepsGood g.S.Site (RestsFor g.S.Site (events_in c.args.flight) c.args.site.now c.args.self.now generation)
      (events_in c.args.flight) c.args.site.now c.write_durably.new.site
  moments =
      let s = g.S.Site in
      let old = c.args.site.now in
      let new = c.write_durably.new.site in
      let batch = events_in c.args.flight in
      subst (λ p. (generation : ℕ) → KeepsGood s (RestsFor s batch old p generation) batch old new) c.self.view_is
      (gate_opens s old c.sync.new.self new (the_view c.self.inside) (batch_bytes c.args.flight) batch sure
      (c.write_durably.ensures.every_moment (c.sync.ensures.honest.0 honest)))

pub returns-in_err-write_durably-clause-every_moment : goal.returns-in_err-write_durably-clause-every_moment
returns-in_err-write_durably-clause-every_moment g c = moments g (goal.at.returns-in_err-write_durably-clause-every_moment g c).After-write_durably

pub returns-clause-every_moment : goal.returns-clause-every_moment
returns-clause-every_moment g c = moments g (goal.at.returns-clause-every_moment g c).After-write_durably

pub returns-clause-at_rest : goal.returns-clause-at_rest
returns-clause-at_rest g c honest standing generation start events opening led =
    let s = g.S.Site in
    let old = c.args.site.now in
    let new = c.write_durably.new.site in
    let batch = events_in c.args.flight in
    let opened = c.write_durably.ensures in
    let honest_mid = c.sync.ensures.honest.0 honest in
    let size_is = sym (c.flight.invariant.size ∙ ap (λ b. length (batch_bytes b)) c.flight.view_is) in
    let at = the_view c.self.inside in
    subst (λ n. RestsNow s new (record { side = at.side; place = at.place + n }) generation start (events ++ batch) opening) size_is
    (gate_opened s old c.sync.new.self new at (batch_bytes c.args.flight) batch
    (sure g (goal.at.returns-clause-at_rest g c).After-write_durably honest standing) (c.in_ok-write_durably.ensures.value honest_mid)
    (opened.other_side honest_mid) opened.tells.1 generation start events opening
    (subst (λ p. RestsFor s batch old p generation start events opening) (sym c.self.view_is) led))

pub returns-clause-short : goal.returns-clause-short
returns-clause-short g c = subst (λ b. length (batch_bytes b) ≤ record_room) c.flight.view_is
    (length_batch c.flight.inside.batch.value c.flight.invariant.spelled)

on_err : {T E : Type 0} (r : Result T E) (P : Type 0) → P → OnErr r P
on_err (Ok v) P p = tt
on_err (Err e) P p = p

pub returns-in_err-sync-clause-failed : goal.returns-in_err-sync-clause-failed
returns-in_err-sync-clause-failed g c honest = on_err c.from_residual.result _ (inl
    (subst (λ p. g.S.Site.state c.sync.new.self p.side ≡ g.S.Site.state c.args.site.now p.side) c.self.view_is (c.in_err-sync.ensures.failed honest)))

pub returns-in_err-write_durably-clause-failed : goal.returns-in_err-write_durably-clause-failed
returns-in_err-write_durably-clause-failed g c honest =
    let s = g.S.Site in
    let new = c.write_durably.new.site in
    on_err c.from_residual-in_err-write_durably.result _
    (subst (λ p. MayHaveOpened (s.state c.args.site.now p.side) p.place (s.state new p.side)) c.self.view_is
    (inr (subst (λ t. MayHaveWritten t c.self.inside.place (OPEN ∷ []) (s.state new c.self.inside.side)) (c.in_ok-sync.ensures.value honest)
    (c.in_err-write_durably.ensures.failed (c.sync.ensures.honest.0 honest)))))

pub returns-clause-holds : goal.returns-clause-holds
returns-clause-holds g c honest =
    let s = g.S.Site in
    subst (λ p. s.state c.write_durably.new.site p.side ≡ with_open_gate (s.state c.args.site.now p.side) p.place) c.self.view_is
    (c.in_ok-write_durably.ensures.value (c.sync.ensures.honest.0 honest)
    ∙ ap (λ t. settled (written t c.self.inside.place (OPEN ∷ []))) (c.in_ok-sync.ensures.value honest))
