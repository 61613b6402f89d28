-- What holds at each moment of formatting, and that two sides that were laid out keep the node of the image.
use Rattle.std.proofs.Common.{◌≡◌, inl, inr, Bool, false, ℕ, ◌+◌, ◌≤◌, List, [], ◌∷◌, ◌++◌, length, take, get_or, eqb, sym, ◌∙◌, ap, subst, arith}
use Rattle.std.specs.Prelude.{◌↔◌, IsTrue}
use Rattle.std.proofs.lemmas.Bool.{eqb-true, eq-eqb}
use Rattle.std.proofs.lemmas.List.{append-nil, drop_all, get_or-take}
use Rattle.cc_messages.specs.declared.output.Output.{Output}
use Rattle.cc_site.specs.declared.site.Side.{Side}
use Rattle.cc_site.specs.declared.site.Site.{Ghosts}
use Rattle.cc_site.specs.declared.site.Side.TheVariants.{A, B}
use Rattle.cc_site.specs.Sides.{SideState, MayLeave, other, touch, shift, written, settled, durable}
use Rattle.cc_site.specs.SideLaws.{durable_only}
use Rattle.cc_site.specs.Gates.{IsShut, shut_cut, shut_written, gate_written}
use Rattle.cc_site.specs.Moments.{Contents, Within}
use Rattle.cc_site.specs.Runs.{EachMoment, OnlyNow, started, joined, weaker}
use Rattle.cc_site.specs.Crashes.{each_side}
use Rattle.cc_site.specs.Reads.{OnlyReads, read_each}
use Rattle.cc_node.specs.Node.{Node}
use Rattle.cc_node_state.specs.Sides.{OPEN, IsArmed, Holds}
use Rattle.cc_checkpoint.specs.Images.{SpellsImage, image_holds}
use Rattle.cc_journal.specs.Journals.{IsAtRest}
use Rattle.cc_flush.proofs.KeptSides.{none_made}
use Rattle.cc_flush.specs.FormatSides.{BeginsWith, AreShut, StayShut, Arms, HasNoneOrAll, IsNoneOrWhole}

closed : ◌≡◌ {A = ℕ} 0 OPEN → ⊥
closed is = absurd cc

-- a side that begins with the byte of a closed gate isn't armed
pub unarmed : (bytes : List ℕ) → BeginsWith 0 bytes → ¬ IsArmed bytes
unarmed bytes shut armed = absurd (closed (sym (ap (λ (l : List ℕ). get_or l 0 0) shut) ∙ get_or-take 1 bytes 0 0 (omega arith) ∙ armed))

pub never : (b : Bool) → b ≡ false → IsTrue b → ⊥
never b is_not is = absurd cc

-- the first byte, as it is read
pub first_read : (bytes read : List ℕ) (byte : ℕ) → 1 ≤ length bytes → read ≡ take 1 bytes → IsTrue (eqb (get_or read 0 0) byte) ↔ BeginsWith byte bytes
first_read [] read byte some is = absurd (omega arith)
first_read (b ∷ bytes) read byte some is = (
  λ same. ap (λ (n : ℕ). n ∷ []) (sym (ap (λ (l : List ℕ). get_or l 0 0) is) ∙ eqb-true _ _ same),
  λ begins. eq-eqb (get_or read 0 0) byte (ap (λ (l : List ℕ). get_or l 0 0) is ∙ ap (λ (l : List ℕ). get_or l 0 0) begins),
)

pub some_byte : (byte : ℕ) (bytes : List ℕ) → BeginsWith byte bytes → 1 ≤ length bytes
some_byte byte [] begins = absurd cc
some_byte byte (b ∷ bytes) begins = omega arith

-- a side that begins with the byte of an open gate is armed
pub armed : (bytes : List ℕ) → BeginsWith OPEN bytes ↔ IsArmed bytes
armed [] = (λ begins. absurd cc, λ is. absurd (closed is))
armed (b ∷ bytes) = (λ begins. ap (λ (l : List ℕ). get_or l 0 0) begins, λ is. ap (λ (n : ℕ). n ∷ []) is)

pub durable_shut : (rest c : List ℕ) → MayLeave (durable (0 ∷ rest)) c → BeginsWith 0 c
durable_shut rest c may = ap (λ (l : List ℕ). take 1 l) (durable_only (0 ∷ rest) c may)

-- the image stands behind the closed gate
pub filled : (image : List ℕ) → settled (written (durable (0 ∷ [])) 1 image) ≡ durable (0 ∷ image)
filled image = ap (λ (l : List ℕ). durable (0 ∷ l)) (ap (λ (l : List ℕ). image ++ l) (drop_all (1 + length image) (0 ∷ []) (omega arith)) ∙ append-nil image)

pub formatted_rests : (state : Side → SideState) (sent : List Output) (image : List ℕ) (node : Node) → SpellsImage image 1 node
    → state A ≡ durable (OPEN ∷ image) → state B ≡ durable (0 ∷ [])
    → IsAtRest state sent (record { side = A; place = length image }) 1 node [] (length sent)
formatted_rests state sent image node spells a b left told possible =
    let here = durable_only (OPEN ∷ image) (left A) (subst (λ (s : SideState). MayLeave s (left A)) a (possible.each A)) in
    let there = durable_only (0 ∷ []) (left B) (subst (λ (s : SideState). MayLeave s (left B)) b (possible.each B)) in
    record {
      other_there = omega (arith, ap length there);
      stands = record {
        holds = subst (λ (l : List ℕ). Holds l 1 node (length image)) (sym here) (image_holds image 1 node spells);
        yields = inl (unarmed (left B) (ap (λ (l : List ℕ). take 1 l) there));
      };
      made = none_made node sent told possible.outlet;
    }

module _ {D : Type 0} (s : Ghosts D) where
  abbrev pub Changes : D → Side → SideState → Contents → List Output → Type 0
  Changes old side bound = Within side bound (s.state old) (s.sent old)

  abbrev pub Armed : D → Side → List ℕ → Contents → List Output → Type 0
  Armed old side image = Arms side image (s.state old) (s.sent old)

  -- ---- a side is cleared

  -- both sides are read alone
  pub read_shut : (old new : D) → OnlyReads s old new → s.honest old → OnlyNow s old → AreShut (s.state old) → EachMoment s old new (StayShut (s.sent old))
  read_shut old new reads h only shut = read_each s old new (StayShut (s.sent old)) reads h (λ left told since.
      let now = only left told since in record {
        shut = λ side. unarmed (left side) (shut side (left side) (now.each side));
        outlet = now.outlet;
      })

  cut_run : (old new : D) (side : Side) → AreShut (s.state old) → 1 ≤ length (s.state old side).bytes
      → EachMoment s old new (Changes old side (shift (s.state old side) 1)) → EachMoment s old new (StayShut (s.sent old))
  cut_run old new side shut some run =
      weaker s old new (Changes old side (shift (s.state old side) 1)) (StayShut (s.sent old)) run (λ left told within. record {
        shut = each_side side (λ on. IsShut (left on)) (shut_cut (s.state old side) (λ c may. unarmed c (shut side c may)) some (left side) within.this)
            (unarmed (left (other side)) (shut (other side) (left (other side)) within.rest));
        outlet = within.outlet;
      })

  -- it is read, and then cut behind its closed gate
  pub cleared_run : (old mid new : D) (side : Side) → OnlyReads s old mid → s.honest old → OnlyNow s old → AreShut (s.state old)
      → BeginsWith 0 (s.state old side).bytes → EachMoment s mid new (Changes mid side (shift (s.state mid side) 1))
      → EachMoment s old new (StayShut (s.sent old))
  cleared_run old mid new side reads h only shut begins run =
      let same = sym (reads.keeps_state h) in
      let some = some_byte 0 (s.state mid side).bytes (subst (λ (t : Side → SideState). BeginsWith 0 (t side).bytes) same begins) in
      joined s old mid new (StayShut (s.sent old)) (read_shut old mid reads h only shut)
      (subst (λ (l : List Output). EachMoment s mid new (StayShut l)) reads.keeps_telling.1 (cut_run mid new side (subst AreShut same shut) some run))

  -- it is cleared, and the other one is as it was
  shut_still : (old new : D) (side : Side) → AreShut (s.state old) → s.state new side ≡ durable (0 ∷ [])
      → s.state new (other side) ≡ s.state old (other side) → AreShut (s.state new)
  shut_still old new side shut this rest = each_side side (λ on. (c : List ℕ) → MayLeave (s.state new on) c → BeginsWith 0 c)
      (λ c may. durable_shut [] c (subst (λ (t : SideState). MayLeave t c) this may))
      (λ c may. shut (other side) c (subst (λ (t : SideState). MayLeave t c) rest may))

  -- ---- side A is filled, and its gate is opened

  pub fill_run : (old new : D) (side : Side) (image : List ℕ) → s.state old side ≡ durable (0 ∷ [])
      → EachMoment s old new (Changes old side (touch (s.state old side) 1 (length image))) → EachMoment s old new (Armed old side image)
  fill_run old new side image is run =
      weaker s old new (Changes old side (touch (s.state old side) 1 (length image))) (Armed old side image) run (λ left told within. record {
        this = inl (shut_written (durable (0 ∷ [])) (λ c may. unarmed c (durable_shut [] c may)) (omega arith) (length image) (left side)
            (subst (λ (t : SideState). MayLeave (touch t 1 (length image)) (left side)) is within.this));
        rest = within.rest;
        outlet = within.outlet;
      })

  pub gate_run : (old mid new : D) (side : Side) (image : List ℕ) → s.state mid side ≡ durable (0 ∷ image) → s.state mid (other side) ≡ s.state old (other side)
      → s.sent mid ≡ s.sent old → EachMoment s mid new (Changes mid side (touch (s.state mid side) 0 1)) → EachMoment s mid new (Armed old side image)
  gate_run old mid new side image is same outlet run =
      weaker s mid new (Changes mid side (touch (s.state mid side) 0 1)) (Armed old side image) run (λ left told within. record {
        this = gate_written 0 image (left side) (subst (λ (t : SideState). MayLeave (touch t 0 1) (left side)) is within.this);
        rest = subst (λ (t : SideState). MayLeave t (left (other side))) same within.rest;
        outlet = within.outlet ∙ outlet;
      })

  -- ---- both

  pub shut_has_none : (image : List ℕ) (outlet : List Output) (old new : D) → EachMoment s old new (StayShut outlet)
      → EachMoment s old new (HasNoneOrAll image outlet)
  shut_has_none image outlet old new run = weaker s old new (StayShut outlet) (HasNoneOrAll image outlet) run (λ left told still. record {
    first = inl (still.shut A);
    second = still.shut B;
    outlet = still.outlet;
  })

  arms_has_all : (image : List ℕ) (outlet : List Output) (old new : D) → AreShut (s.state old) → s.sent old ≡ outlet → EachMoment s old new (Armed old A image)
      → EachMoment s old new (HasNoneOrAll image outlet)
  arms_has_all image outlet old new shut same run = weaker s old new (Armed old A image) (HasNoneOrAll image outlet) run (λ left told arms. record {
    first = arms.this;
    second = unarmed (left B) (shut B (left B) arms.rest);
    outlet = arms.outlet ∙ same;
  })

  -- side B is cleared, and then side A
  module _ (image : List ℕ) (old one two : D) (shut : AreShut (s.state old)) (b : s.state one B ≡ durable (0 ∷ [])) (same_a : s.state one A ≡ s.state old A)
      (same_sent : s.sent one ≡ s.sent old)
      (first : EachMoment s old one (StayShut (s.sent old))) (second : AreShut (s.state one) → EachMoment s one two (StayShut (s.sent one))) where
    shut_one : AreShut (s.state one)
    shut_one = shut_still old one B shut b same_a

    pub both_cleared : EachMoment s old two (HasNoneOrAll image (s.sent old))
    both_cleared =
        shut_has_none image (s.sent old) old two (joined s old one two (StayShut (s.sent old)) first
        (subst (λ (l : List Output). EachMoment s one two (StayShut l)) same_sent (second shut_one)))

    -- then the image is put on side A, and its gate is opened
    pub laid_out : (new : D) → s.state two A ≡ durable (0 ∷ []) → s.state two B ≡ s.state one B → s.sent two ≡ s.sent one
        → EachMoment s two new (Armed two A image)
        → EachMoment s old new (HasNoneOrAll image (s.sent old))
    laid_out new a same_b same run = joined s old two new (HasNoneOrAll image (s.sent old)) both_cleared
        (arms_has_all image (s.sent old) two new (shut_still one two A shut_one a same_b) (same ∙ same_sent) run)

  -- both sides are read alone, and then it goes on
  pub read_has_none : (image : List ℕ) (old new : D) → OnlyReads s old new → s.honest old → OnlyNow s old → AreShut (s.state old)
      → EachMoment s old new (HasNoneOrAll image (s.sent old))
  read_has_none image old new reads h only shut = shut_has_none image (s.sent old) old new (read_shut old new reads h only shut)

  pub read_and_laid : (image : List ℕ) (old mid new : D) → OnlyReads s old mid → s.honest old → OnlyNow s old → AreShut (s.state old)
      → (AreShut (s.state mid) → EachMoment s mid new (HasNoneOrAll image (s.sent mid))) → EachMoment s old new (HasNoneOrAll image (s.sent old))
  read_and_laid image old mid new reads h only shut run = joined s old mid new (HasNoneOrAll image (s.sent old)) (read_has_none image old mid reads h only shut)
      (subst (λ (l : List Output). EachMoment s mid new (HasNoneOrAll image l)) reads.keeps_telling.1 (run (subst AreShut (sym (reads.keeps_state h)) shut)))

  pub image_whole : (image : List ℕ) (node : Node) (outlet : List Output) (old new : D) → SpellsImage image 1 node
      → EachMoment s old new (HasNoneOrAll image outlet) → EachMoment s old new (IsNoneOrWhole node outlet)
  image_whole image node outlet old new spells run = weaker s old new (HasNoneOrAll image outlet) (IsNoneOrWhole node outlet) run (λ left told has. record {
    none_or_whole = elim has.first [
      | inl shut ↦ inl (shut, has.second)
      | inr whole ↦ inr (inl (record {
        generation = 1;
        place = length image;
        at = record {
          holds = subst (λ (l : List ℕ). Holds l 1 node (length image)) (sym whole) (image_holds image 1 node spells);
          yields = inl has.second;
        };
      }))
    ];
    outlet = has.outlet;
  })

  -- no call was made
  pub none_yet : (node : Node) (site : D) → OnlyNow s site → AreShut (s.state site) → EachMoment s site site (IsNoneOrWhole node (s.sent site))
  none_yet node site only shut = started s site (IsNoneOrWhole node (s.sent site)) (λ left told since.
      let now = only left told since in record {
        none_or_whole = inl (unarmed (left A) (shut A (left A) (now.each A)), unarmed (left B) (shut B (left B) (now.each B)));
        outlet = now.outlet;
      })
