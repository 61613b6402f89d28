-- A post on each live link, row by row.
--     row_sends            the last post on each link of these rows whose peer hasn't left
--     rows_send            those of all links
--     entries_where        the entries of a table whose keys pass a test
--     all_start            no link starts behind the posts that were made
--     next                 the next item that a loop takes
use Rattle.std.proofs.Common.{◌≡◌, ℕ, suc, ◌+◌, ◌-◌, ◌<◌, ◌≤◌, Bool, true, false, cond, not, List, [], ◌∷◌, ◌++◌, map, length, get_or, drop}
use Rattle.std.proofs.Common.{drop-cons, add-one, refl, sym, ap, subst, ◌∙◌}
use Rattle.std.specs.Prelude.{Some, IfSome}
use Rattle.std.specs.List.{AllByRecursion, flat_map}
use Rattle.std.specs.Ordering.{nat_cmp}
use Rattle.std.specs.FinMap as table
use Rattle.std.specs.FinMap.Entries.{where_key, is_sorted-where_key}
use Rattle.cc_views.specs.NatSets as set
use Rattle.cc_views.specs.Entries.{entries_back, from_T}
use Rattle.cc_views.specs.MapLaws.{all_entries}
use Rattle.cc_views.specs.Tables.{retain-from_entries}
use Rattle.cc_messages.specs.declared.message.Message.{Message}
use Rattle.cc_messages.specs.declared.output.Output.{Output}
use Rattle.cc_messages.specs.declared.output.Output.TheVariants as output
use Rattle.cc_links.specs.declared.link_row.LinkRow.{LinkRow}
use Rattle.cc_links.specs.Links.{Link, Links, LinksWithin, IsLinkWithin}
use Rattle.cc_links.specs.Rows.{row_of, rows_of}
use Rattle.cc_node.specs.Core.{Core, sends, send_post}
use Rattle.cc_journal.specs.Outlet.{on_link}

abbrev pub row_sends : Core → Message → List LinkRow → List Output
row_sends c m rows = flat_map (on_link c m) rows

-- ---- the rows that pass a test

pub entries_where : (p : ℕ → Bool) (ls : Links) → table.entries (table.retain_keys ls p) ≡ where_key nat_cmp p (table.entries ls)
entries_where p ls =
    ap (λ (m : Links). table.entries (table.retain_keys m p)) (table.same_entries_map ls (table.from_entries (table.entries ls))
    (sym (entries_back (table.entries ls) (from_T _ (table.entries_sorted ls)))))
    ∙ ap table.entries (retain-from_entries p (table.entries ls))
    ∙ entries_back (where_key nat_cmp p (table.entries ls)) (from_T _ (is_sorted-where_key nat_cmp p (table.entries ls) (table.entries_sorted ls)))

sends_where : (c : Core) (m : Message) (es : List (ℕ × Link))
    → sends c.posts m (where_key nat_cmp (λ q. not (set.contains c.churn.changes.left q)) es) ≡ row_sends c m (map row_of es)
sends_where c m [] = refl
sends_where c m (e ∷ es) =
    let kept = where_key nat_cmp (λ q. not (set.contains c.churn.changes.left q)) es in
    let rest = row_sends c m (map row_of es) in
    let send = output.Send e.0 (c.posts - e.1.start) m in
    elim (set.contains c.churn.changes.left e.0) as (λ b. sends c.posts m (cond (not b) (e ∷ kept) kept) ≡ cond b [] (send ∷ []) ++ rest) [
      | true ↦ sends_where c m es
      | false ↦ ap (λ (l : List Output). send ∷ l) (sends_where c m es)
    ]

pub rows_send : (c : Core) (m : Message) → row_sends c m (rows_of c.links) ≡ send_post c (Some m)
rows_send c m = sym (ap (sends c.posts m) (entries_where (λ q. not (set.contains c.churn.changes.left q)) c.links) ∙ sends_where c m (table.entries c.links))

-- ---- where they start

abbrev pub AllStart : ℕ → List LinkRow → Type 0
AllStart posts rows = AllByRecursion (λ (row : LinkRow). row.start ≤ posts) rows

entries_start : (posts : ℕ) (es : List (ℕ × Link)) → AllByRecursion (λ (e : ℕ × Link). IsLinkWithin posts e.1) es → AllStart posts (map row_of es)
entries_start posts [] h = tt
entries_start posts (e ∷ es) h = (h.0.0, entries_start posts es h.1)

pub all_start : (posts : ℕ) (ls : Links) → LinksWithin posts ls → AllStart posts (rows_of ls)
all_start posts ls h = entries_start posts (table.entries ls) (all_entries (λ q l. IsLinkWithin posts l) (table.entries ls) (table.entries_sorted ls)
    (λ q. subst (λ o. IfSome o (IsLinkWithin posts)) (table.get-entries ls q) (h q)))

-- ---- item by item

pub next : {X : Type 0} (xs : List X) (i : ℕ) (x : X) → i < length xs → x ≡ get_or xs i x → drop i xs ≡ x ∷ drop (i + 1) xs
next xs i x lt is = drop-cons xs i x lt ∙ ap (λ r. r ∷ drop (suc i) xs) (sym is) ∙ ap (λ (n : ℕ). x ∷ drop n xs) (sym (add-one i))
