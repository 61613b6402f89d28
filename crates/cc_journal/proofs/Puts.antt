-- Runs of calls that put outputs.
--     puts_none, puts_one, puts_both   a run of no call;  of one;  a run after another
--     HasPut, put_none, put_more     of some outputs, what isn't left has been put
use Rattle.std.proofs.Common.{◌≡◌, List, [], ◌∷◌, ◌++◌, refl, sym, ◌∙◌, ap, subst}
use Rattle.std.specs.Prelude.{◌↔◌}
use Rattle.std.proofs.lemmas.List.{append_assoc, append-nil}
use Rattle.cc_messages.specs.declared.output.Output.{Output}
use Rattle.cc_site.specs.declared.site.Side.{Side}
use Rattle.cc_site.specs.declared.site.Site.{Ghosts}
use Rattle.cc_site.specs.Sides.{SideState, MayLeave}
use Rattle.cc_site.specs.Moments.{Contents, Possible}
use Rattle.cc_site.specs.Runs.{OnlyNow, Passes, started, goes_on, joined, weaker}
use Rattle.cc_journal.specs.GoodSides.{MayBeLeft}
use Rattle.cc_journal.specs.Outlet.{IsPutting, Puts}

-- nothing has been put yet
pub putting_none : (state : Side → SideState) (sent all : List Output) (left : Contents) (told : List Output) → Possible state sent left told
    → IsPutting state sent all left told
putting_none state sent all left told possible =
    record { each = possible.each; put = []; rest = all; parts = refl; outlet = possible.outlet ∙ sym (append-nil sent) }

-- while the first are put, others are to come
putting_first : (state : Side → SideState) (sent xs ys : List Output) (left : Contents) (told : List Output) → IsPutting state sent xs left told
    → IsPutting state sent (xs ++ ys) left told
putting_first state sent xs ys left told putting = record {
  each = putting.each;
  put = putting.put;
  rest = putting.rest ++ ys;
  parts = ap (λ (l : List Output). l ++ ys) putting.parts ∙ append_assoc putting.put putting.rest ys;
  outlet = putting.outlet;
}

-- while the others are put, the first have been
putting_then : (old mid : Side → SideState) (sent now xs ys : List Output) → mid ≡ old → now ≡ sent ++ xs → (left : Contents) (told : List Output)
    → IsPutting mid now ys left told → IsPutting old sent (xs ++ ys) left told
putting_then old mid sent now xs ys same more left told putting = record {
  each = λ side. subst (λ (t : Side → SideState). MayLeave (t side) (left side)) same (putting.each side);
  put = xs ++ putting.put;
  rest = putting.rest;
  parts = ap (λ (l : List Output). xs ++ l) putting.parts ∙ sym (append_assoc xs putting.put putting.rest);
  outlet = putting.outlet ∙ ap (λ (l : List Output). l ++ putting.put) more ∙ append_assoc sent xs putting.put;
}

module _ {D : Type 0} (s : Ghosts D) where
  pub puts_none : (site : D) → (s.honest site → OnlyNow s site) → Puts s [] site site
  puts_none site only = record {
    same_honest = (λ h. h, λ h. h);
    same_state = λ _. refl;
    told = λ t. (t, sym (append-nil (s.sent site)));
    moments = λ h _. started s site (IsPutting (s.state site) (s.sent site) [])
        (λ left told since. putting_none (s.state site) (s.sent site) [] left told (only h left told since));
    contents = λ h. started s site (λ left told. MayBeLeft (s.state site) left) (λ left told since. (only h left told since).each);
    same_failures = refl;
  }

  pub puts_one : (old new : D) (output : Output) → (s.honest old → OnlyNow s old) → (s.honest old ↔ s.honest new)
      → (s.tells new → s.tells old × (s.sent new ≡ s.sent old ++ output ∷ [])) → (s.honest old → s.state new ≡ s.state old)
      → (s.honest old → Passes s old new (Possible (s.state old) (s.sent new))) → s.failures new ≡ s.failures old → Puts s (output ∷ []) old new
  puts_one old new output only honest told same time failures =
      let putting = IsPutting (s.state old) (s.sent old) (output ∷ []) in
      let leaves : Contents → List Output → Type 0 = λ left told. MayBeLeft (s.state old) left in
      record {
        same_honest = honest;
        same_state = same;
        told = told;
        moments = λ h t. goes_on s old old new putting (Possible (s.state old) (s.sent new))
            (started s old putting (λ left told since. putting_none (s.state old) (s.sent old) (output ∷ []) left told (only h left told since))) (time h)
            (λ left now_told now. record { each = now.each; put = output ∷ []; rest = []; parts = refl; outlet = now.outlet ∙ (told t).1 });
        contents = λ h. goes_on s old old new leaves (Possible (s.state old) (s.sent new))
            (started s old leaves (λ left told since. (only h left told since).each)) (time h) (λ left told now. now.each);
        same_failures = failures;
      }

  pub puts_both : (old mid new : D) (xs ys : List Output) → Puts s xs old mid → Puts s ys mid new → Puts s (xs ++ ys) old new
  puts_both old mid new xs ys first then = record {
    same_honest = (λ h. then.same_honest.0 (first.same_honest.0 h), λ h. first.same_honest.1 (then.same_honest.1 h));
    same_state = λ h. then.same_state (first.same_honest.0 h) ∙ first.same_state h;
    told = λ t.
        let after = then.told t in
        let before = first.told after.0 in
        (before.0, after.1 ∙ ap (λ (l : List Output). l ++ ys) before.1 ∙ append_assoc (s.sent old) xs ys);
    moments = λ h t.
        let after = then.told t in
        let putting = IsPutting (s.state old) (s.sent old) (xs ++ ys) in
        joined s old mid new putting (weaker s old mid _ putting (first.moments h after.0) (putting_first (s.state old) (s.sent old) xs ys))
        (weaker s mid new _ putting (then.moments (first.same_honest.0 h) t)
        (putting_then (s.state old) (s.state mid) (s.sent old) (s.sent mid) xs ys (first.same_state h) (first.told after.0).1));
    contents = λ h. joined s old mid new _ (first.contents h) (weaker s mid new _ _ (then.contents (first.same_honest.0 h))
        (λ left told may side. subst (λ (t : Side → SideState). MayLeave (t side) (left side)) (first.same_state h) (may side)));
    same_failures = then.same_failures ∙ first.same_failures;
  }

  -- of all, what isn't left has been put
  pub record HasPut (old now : D) (all left : List Output) : Type 0 where
    pub front : List Output
    pub puts : Puts s front old now
    pub parts : all ≡ front ++ left

  pub put_none : (site : D) (all : List Output) → (s.honest site → OnlyNow s site) → HasPut site site all all
  put_none site all only = record { front = []; puts = puts_none site only; parts = refl }

  pub put_more : (old now new : D) (all left first rest : List Output) → HasPut old now all left → left ≡ first ++ rest → Puts s first now new
      → HasPut old new all rest
  put_more old now new all left first rest put split run = record {
    front = put.front ++ first;
    puts = puts_both old now new put.front first put.puts run;
    parts = put.parts ∙ ap (λ (l : List Output). put.front ++ l) split ∙ sym (append_assoc put.front first rest);
  }

  pub put_all : (old now : D) (all outputs left : List Output) → HasPut old now all left → all ≡ outputs → left ≡ [] → Puts s outputs old now
  put_all old now all outputs left put is none =
      subst (λ (l : List Output). Puts s l old now) (sym (put.parts ∙ ap (λ (l : List Output). put.front ++ l) none ∙ append-nil put.front) ∙ is) put.puts
