-- A node begins lawful, and stays so along any list of events of which none is refused.
--     fresh_lawful, after_lawful
use Rattle.std.proofs.Common.{◌≡◌, ℕ, ◌<◌, ◌≤◌, true, nat_eq, List, [], ◌∷◌, refl, sym, ap, subst, ◌∙◌, inl, inr, arith}
use Rattle.std.specs.Prelude.{IsTrue, T, is_some}
use Rattle.std.specs.List.{list_any}
use Rattle.std.specs.Ordering.{nat_cmp}
use Rattle.std.specs.FinMap as table
use Rattle.std.proofs.lemmas.Bool.{or_cases, or_left, or_right}
use Rattle.std.proofs.lemmas.List.Folds.{list_any-append}
use Rattle.cc_views.specs.NatSets as set
use Rattle.cc_views.specs.NatSets.{IsWithin, contains-from_list, len_within}
use Rattle.cc_views.specs.MapLaws.{get-empty, empty_within}
use Rattle.cc_views.specs.Rows.{Pair}
use Rattle.cc_views.specs.Limits.{counter_limit, known_limit}
use Rattle.cc_messages.specs.declared.answer.Answer.{Answer}
use Rattle.cc_messages.specs.declared.event.Event.{Event}
use Rattle.cc_links.specs.Links.{Link, Links, add_all, IsLinkWithin}
use Rattle.cc_links.specs.LinkLaws.{add_all_links, contains-add_all, lowest_within}
use Rattle.cc_outbox.specs.OutboxLaws.{KeepsPosts, keeps_none}
use Rattle.cc_node.specs.Node.{Node, step, after, IsLawful}
use Rattle.cc_node.specs.Lawful.{IsLawfulNode}
use Rattle.cc_node.specs.Openings.{Opening, IsOpening, ids_of, fresh}
use Rattle.cc_node.proofs.KnownLaws.{same_number}
use Rattle.cc_node.proofs.LawfulLaws.{step_lawful}

abbrev table_of : Opening → Links
table_of o = add_all 0 (ids_of o) table.empty

listed_known : (o : Opening) (q : ℕ) → list_any (nat_eq q) (ids_of o) ≡ true → IsTrue (table.contains_key (table_of o) q)
listed_known o q h = contains-add_all 0 (ids_of o) table.empty q ∙ or_left _ _ h

initial_known : (o : Opening) → IsWithin (set.from_list o.initial) (table_of o)
initial_known o q h =
    let here : list_any (nat_eq q) o.initial ≡ true = sym (contains-from_list o.initial q) ∙ h in
    listed_known o q (list_any-append (nat_eq q) (o.me ∷ o.initial) o.contacts ∙ or_left _ _ (or_right _ _ here))

me_known : (o : Opening) → IsTrue (table.contains_key (table_of o) o.me)
me_known o = listed_known o o.me (or_left _ _ (same_number o.me))

pub known_listed : (o : Opening) → IsWithin (table_of o) (set.from_list (ids_of o))
known_listed o q h =
    let none = table.contains_key (table.empty {X = Link} {R = nat_cmp}) q in
    elim (or_cases (list_any (nat_eq q) (ids_of o)) none (sym (contains-add_all 0 (ids_of o) table.empty q) ∙ h))
    as (λ _. IsTrue (set.contains (set.from_list (ids_of o)) q)) [
      | inl e ↦ contains-from_list (ids_of o) q ∙ e
      | inr e ↦ empty_within Link (set.from_list (ids_of o)) q e
    ]

no_key : (X : Type 0) (k : ℕ) → IsTrue (table.contains_key (table.empty {X = X} {R = nat_cmp}) k) → ⊥
no_key X k h = absurd (subst (λ b. T b) (sym h ∙ ap is_some (table.get-empty nat_cmp k)) tt)

nothing_posted : (low : ℕ) → low ≤ 0 → KeepsPosts low 0 table.empty
nothing_posted low h = let none : 0 ≡ low = omega arith in subst (λ n. KeepsPosts n 0 table.empty) none (keeps_none 0)

pub fresh_lawful : (o : Opening) → IsOpening o → IsLawfulNode (fresh o)
unfolding fresh
fresh_lawful o h =
    let few : table.len (table_of o) ≤ known_limit = omega (arith, len_within (table_of o) (set.from_list (ids_of o)) (known_listed o), h.few) in
    record {
      core = record {
        beta = h.beta;
        gamma = h.gamma;
        me = me_known o;
        changes = record { entered = initial_known o; joined = initial_known o; left = empty_within (Unit {0}) (table_of o) };
        view = empty_within Pair (table_of o);
        link_count = few;
        joined = λ q k. k;
        links = add_all_links 0 (ids_of o) table.empty (get-empty (λ _. IsLinkWithin 0));
        phase = tt;
        line = record {
          behind = refl;
          few = omega arith;
          apart = tt;
          last = tt;
          round = record { some = h.some; most = h.most; few = omega (arith, h.some); alike = refl; last = tt };
        };
        sessions = get-empty (λ _ last. (0 < last) × (last ≤ counter_limit));
        session_count = omega (arith, table.len-empty nat_cmp ℕ);
        counts = record { number = omega arith; tag = omega arith; posts = omega arith; echoes = omega arith };
        need = omega arith;
        set = omega (arith, set.len-empty);
      };
      last = refl;
      posts = nothing_posted _ (lowest_within set.empty 0 (table_of o) (add_all_links 0 (ids_of o) table.empty (get-empty (λ _. IsLinkWithin 0))));
      answers = λ s k. absurd (no_key Answer s k);
    }

pub after_lawful : (n : Node) (es : List Event) → IsLawful n es → IsLawfulNode n → IsLawfulNode (after n es)
after_lawful n [] d h = h
after_lawful n (e ∷ es) d h = after_lawful (step n e) es d.1 (step_lawful n e d.0 h)
