use Rattle.std.proofs.Common.{◌≡◌, ◌+◌, ℕ, true, cond, arith, ap, sym, ◌∙◌}
use Rattle.cc_views.specs.NatSets as set
use Rattle.cc_views.specs.NatSets.{NatSet, len-insert, len_insert_at_most}
use Rattle.cc_objects.proofs.writes.add_member.Goals as goal
use Rattle.cc_objects.proofs.writes.add_member.Goals.{else-len-eq-MAX_LEN-via-then-len-eq-MAX_LEN+else-not-contains}
use Rattle.cc_objects.proofs.writes.add_member.Goals.{else-len-eq-MAX_LEN-via-else-len-eq-MAX_LEN}

-- a member that is there makes the set no larger
held : (s : NatSet) (n : ℕ) → set.contains s n ≡ true → set.len (set.insert s n) ≡ set.len s
held s n there = len-insert s n ∙ ap (λ b. cond b (set.len s) (set.len s + 1)) there

pub insert-requires : goal.insert-requires
insert-requires c =
    let s = c.args.value.now.set in
    elim c.else-len-eq-MAX_LEN.branch [
      | else-len-eq-MAX_LEN-via-then-len-eq-MAX_LEN+else-not-contains w ↦
          omega (arith, c.len.ensures.len, c.len.ensures.fits, held s c.args.number (sym w.contains.ensures ∙ w.if-not-contains.false))
      | else-len-eq-MAX_LEN-via-else-len-eq-MAX_LEN w ↦ omega (arith, c.len.ensures.len, c.len.ensures.fits, len_insert_at_most s c.args.number)
    ]
