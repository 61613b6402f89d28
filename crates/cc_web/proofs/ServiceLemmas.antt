-- What a collect showed, and a fact of a call that succeeded.
--     seen_is, not_seen      an ask that is a view;  one that isn't
--     on_ok_map              what follows from what holds where a call succeeded
use Rattle.std.proofs.Common.{◌≡◌, Result, Ok, Err, sym, ap}
use Rattle.std.specs.Result.{OnOk}
use Rattle.cc_views.specs.Rows.{ViewMap}
use Rattle.cc_messages.specs.declared.answer.Answer.TheVariants as answers
use Rattle.cc_web.specs.declared.asked.Asked.{Asked}
use Rattle.cc_web.specs.declared.asked.Asked.TheVariants as asked
use Rattle.cc_web.specs.Conducts.{seen_of}

abbrev view_or : ViewMap → Result ViewMap Asked → ViewMap
view_or other (Ok view) = view
view_or other (Err became) = other

abbrev asked_or : Asked → Result ViewMap Asked → Asked
asked_or other (Ok view) = other
asked_or other (Err became) = became

pub seen_is : (became : Asked) (view : ViewMap) → seen_of became ≡ Ok view → became ≡ asked.Answered (answers.Seen view)
seen_is (asked.Answered (answers.Seen shown)) view e = ap (λ (v : ViewMap). asked.Answered (answers.Seen v)) (ap (view_or shown) e)
seen_is became view e = absurd (cc e)

pub not_seen : (became other : Asked) → seen_of became ≡ Err other → other ≡ became
not_seen (asked.Answered (answers.Seen shown)) other e = absurd (cc e)
not_seen became other e = sym (ap (asked_or became) e)

pub on_ok_map : {T E : Type 0} (r : Result T E) (P Q : Type 0) → (P → Q) → OnOk r P → OnOk r Q
on_ok_map (Ok x) P Q f p = f p
on_ok_map (Err x) P Q f p = tt
