-- Calls that only read.
--     OnlyReads                              at no moment was anything written, and nothing was put
--     bytes_of                               what a read gives of each side
--     nothing_then, reads_none, reads_then   how such calls are put together
--     read_each                              at each moment of them a crash leaves what it might have left before
use Rattle.std.specs.Prelude.{◌≡◌, ◌↔◌, List}
use Rattle.std.proofs.Common.{inl, inr, ⊎_elim, arith, ◌∙◌, refl}
use Rattle.cc_messages.specs.declared.output.Output.{Output}
use Rattle.cc_site.specs.declared.site.Site.{Ghosts}
use Rattle.cc_site.specs.Moments.{Contents, Nothing}
use Rattle.cc_site.specs.Runs.{Passes, EachMoment, started, rests}

module _ {D : Type 0} (s : Ghosts D) where
  -- nothing was written and nothing was put, at no moment
  pub record OnlyReads (old new : D) : Type 0 where
    pub keeps_honesty : s.honest old ↔ s.honest new
    pub keeps_telling : (s.tells old ↔ s.tells new) × (s.sent new ≡ s.sent old)
    pub keeps_state : s.honest old → s.state new ≡ s.state old
    pub no_moment : s.honest old → Passes s old new Nothing

  -- what a read gives of each side
  abbrev pub bytes_of : D → Contents
  bytes_of site side = (s.state site side).bytes

  pub nothing_then : (a b c : D) → Passes s a b Nothing → Passes s b c Nothing → Passes s a c Nothing
  nothing_then a b c first second = record {
    later = omega (arith, first.later, second.later);
    nothing_else = λ t left told le now.
        ⊎_elim (first.nothing_else t left told le) (λ none. inr none) (second.nothing_else t left told (omega (arith, first.later)) now);
    keeps = λ t left told le was. second.keeps t left told (omega (arith, first.later)) (first.keeps t left told le was);
  }

  -- no call
  pub reads_none : (site : D) → OnlyReads site site
  reads_none site = record {
    keeps_honesty = (λ h. h, λ h. h);
    keeps_telling = ((λ t. t, λ t. t), refl);
    keeps_state = λ h. refl;
    no_moment = λ h. record { later = omega arith; nothing_else = λ t left told le was. inl was; keeps = λ t left told le was. was };
  }

  -- two runs of calls
  pub reads_then : (old mid new : D) → OnlyReads old mid → OnlyReads mid new → OnlyReads old new
  reads_then old mid new first second = record {
    keeps_honesty = (λ h. second.keeps_honesty.0 (first.keeps_honesty.0 h), λ h. first.keeps_honesty.1 (second.keeps_honesty.1 h));
    keeps_telling = (
      (λ t. second.keeps_telling.0.0 (first.keeps_telling.0.0 t), λ t. first.keeps_telling.0.1 (second.keeps_telling.0.1 t)),
      second.keeps_telling.1 ∙ first.keeps_telling.1,
    );
    keeps_state = λ h. second.keeps_state (first.keeps_honesty.0 h) ∙ first.keeps_state h;
    no_moment = λ h. nothing_then old mid new (first.no_moment h) (second.no_moment (first.keeps_honesty.0 h));
  }

  -- what holds at a moment holds at each moment of a run of reads from it on
  pub read_each : (old new : D) (P : Contents → List Output → Type 0) → OnlyReads old new → s.honest old
      → ((left : Contents) (told : List Output) → s.left_since old (s.moment old) left told → P left told) → EachMoment s old new P
  read_each old new P reads h here = rests s old old new P (started s old P here) (reads.no_moment h)
