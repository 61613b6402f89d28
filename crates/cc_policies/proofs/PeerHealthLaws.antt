-- Who keeps up is never taken for absent, and nothing lapses but what is kept for one that is.
--     keeps_up           who keeps up stays
--     only_absent        what lapses is kept for one that is absent
use Rattle.std.proofs.Common.{◌≡◌, ℕ, zero, suc, ◌≤◌, Bool, true, false, nat_le, List, [], ◌∷◌, refl, arith}
use Rattle.std.specs.Prelude.{⊤}
use Rattle.std.proofs.lemmas.Bool.{cond_both, le-leb}
use Rattle.cc_policies.specs.declared.peer_health.PeerHealth.{PeerHealth}
use Rattle.cc_policies.specs.declared.peer_health.PeerHealth.TheVariants.{Current, Owing, Absent}
use Rattle.cc_policies.specs.PeerHealth.{of_owing, of_live, after_second, is_absent, may_lapse, Second, after_seconds, KeepsUp}

-- what is due was sent by the last second, or by the one before it; of the two seconds before, so much was sent
abbrev IsFine : ℕ → ℕ → PeerHealth → Type 0
IsFine before last Current = ⊤
IsFine before last (Owing due zero) = due ≤ last
IsFine before last (Owing due (suc zero)) = due ≤ before
IsFine before last (Owing due (suc (suc seconds))) = ⊥
IsFine before last Absent = ⊥

owing_fine : (before last acked sent : ℕ) (s : PeerHealth) → before ≤ acked → IsFine before last s → IsFine last sent (of_owing s acked sent)
owing_fine before last acked sent Current up h = omega arith
owing_fine before last acked sent (Owing due zero) up h =
    cond_both (nat_le due acked) (Owing sent 0) (Owing due 1) (IsFine last sent) (λ _. omega arith) (λ _. h)
owing_fine before last acked sent (Owing due (suc zero)) up h =
    let paid : nat_le due acked ≡ true = le-leb due acked (omega (arith, up, h)) in
    rw paid (omega arith)
owing_fine before last acked sent (Owing due (suc (suc seconds))) up h = absurd h
owing_fine before last acked sent Absent up h = absurd h

live_fine : (before last acked sent : ℕ) (s : PeerHealth) → before ≤ acked → IsFine before last s → IsFine last sent (of_live s acked sent)
live_fine before last acked sent Current up h =
    cond_both (nat_le sent acked) Current (of_owing Current acked sent) (IsFine last sent) (λ _. tt) (λ _. owing_fine before last acked sent Current up h)
live_fine before last acked sent (Owing due seconds) up h =
    cond_both (nat_le sent acked) Current (of_owing (Owing due seconds) acked sent) (IsFine last sent) (λ _. tt)
    (λ _. owing_fine before last acked sent (Owing due seconds) up h)
live_fine before last acked sent Absent up h = absurd h

second_fine : (before last : ℕ) (s : Second) (standing : PeerHealth) → before ≤ s.acked → IsFine before last standing
    → IsFine last s.sent (after_second standing s.acked s.sent s.is_live)
second_fine before last s standing up h =
    cond_both s.is_live (of_live standing s.acked s.sent) Current (IsFine last s.sent) (λ _. live_fine before last s.acked s.sent standing up h) (λ _. tt)

fine_there : (before last : ℕ) (s : PeerHealth) → IsFine before last s → is_absent s ≡ false
fine_there before last Current h = refl
fine_there before last (Owing due seconds) h = refl
fine_there before last Absent h = absurd h

all_fine : (before last : ℕ) (seconds : List Second) (standing : PeerHealth) → IsFine before last standing → KeepsUp before last seconds
    → is_absent (after_seconds standing seconds) ≡ false
all_fine before last [] standing h up = fine_there before last standing h
all_fine before last (s ∷ seconds) standing h up =
    all_fine last s.sent seconds (after_second standing s.acked s.sent s.is_live) (second_fine before last s standing up.0 h) up.1

pub keeps_up : (before last : ℕ) (seconds : List Second) → KeepsUp before last seconds → is_absent (after_seconds Current seconds) ≡ false
keeps_up before last seconds up = all_fine before last seconds Current tt up

pub only_absent : (s : PeerHealth) (reach posts asked_at : ℕ) (is_tick : Bool) → may_lapse s reach posts asked_at is_tick ≡ true → s ≡ Absent
only_absent Current reach posts asked_at is_tick e = cc
only_absent (Owing due seconds) reach posts asked_at is_tick e = cc
only_absent Absent reach posts asked_at is_tick e = refl
