-- The visits of a search that has ended: those that passed, and the one that ended it.
use Rattle.std.proofs.Common.{◌≡◌, ℕ, suc, ◌+◌, List, [], ◌∷◌, ◌++◌, length, Ok, Err, Some, None, refl, sym, ap, ◌∙◌, subst, arith}
use Rattle.std.specs.List.{AllByRecursion}
use Rattle.document_parts.specs.Documents.{Targets, Listing}
use Rattle.metadata.specs.File.{Bytes, File, Names}
use Rattle.denials.specs.Numbers as no
use Rattle.denials.specs.Orders.{Plain, RoleMissing, Stop}
use Rattle.denials.proofs.DefiniteOrders.{Definite, line, check-definite, give-definite, need_or-definite, ok-err, ok-inj}
use Rattle.keys_roles.specs.Plain.{look_up}
use Rattle.delegations.specs.Delegation.{Edge}
use Rattle.delegations.specs.Rows.{row_at}
use Rattle.delegations.specs.Search.{Shelf, listing_of, most_visits, visit, visited}
use Rattle.delegations.specs.Verdicts.{PassesBy}
use Rattle.delegations.specs.Visits.{Makes, Visits, last_first, no_more, no_room, ends, passes}

visit-definite : (V : Shelf) (e : Edge) (now : ℕ) → Definite (visit V e now)
visit-definite V e now =
    line (need_or-definite (Plain no.role_unlisted) (look_up V.listing e.role)) (λ entry.
    line (need_or-definite (RoleMissing e.role entry.version) (row_at V.rows e.role entry.version)) (λ file.
    line (check-definite _ _) (λ _. line (check-definite _ _) (λ _. line (check-definite _ _) (λ _. line (check-definite _ _) (λ _. give-definite file))))))

module _ (V : Shelf) (path : Bytes) (now : ℕ) where
  -- a visit that is denied passes by nothing
  pub denied_ends : (e : Edge) (s : Stop) → visit V e now (Err s) → PassesBy V path now e → ⊥
  denied_ends e s h p = ok-err p.file s (visit-definite V e now (Ok p.file) (Err s) p.visits h)

  -- nor one of a document that lists the path
  pub found_ends : (e : Edge) (file : File Targets) (l : Listing) → visit V e now (Ok file) → listing_of file.body path ≡ Some l → PassesBy V path now e → ⊥
  found_ends e file l h is p =
      let same : file ≡ p.file = ok-inj file p.file (visit-definite V e now (Ok file) (Ok p.file) h p.visits) in
      let none : listing_of file.body path ≡ None = subst (λ (f : File Targets). listing_of f.body path ≡ None) (sym same) p.lists_not in
      absurd (cc)

  makes_all : (left : ℕ) (taken : List Edge) → AllByRecursion (PassesBy V path now) taken → Makes V path now (length taken + left) taken taken
  makes_all left [] on = no_more
  makes_all left (e ∷ es) on = subst (λ n. Makes V path now n (e ∷ es) (e ∷ es)) (omega arith) (passes on.0 (makes_all left es on.1))

  makes_first : (taken : List Edge) (e : Edge) (rest : List Edge) → AllByRecursion (PassesBy V path now) taken → Makes V path now (length taken) (taken ++ e ∷ rest) taken
  makes_first [] e rest on = no_room
  makes_first (t ∷ ts) e rest on = passes on.0 (makes_first ts e rest on.1)

  makes_one : (left : ℕ) (taken : List Edge) (e : Edge) (rest : List Edge) → AllByRecursion (PassesBy V path now) taken → (PassesBy V path now e → ⊥)
      → Makes V path now (length taken + suc left) (taken ++ e ∷ rest) (taken ++ e ∷ [])
  makes_one left [] e rest on last = subst (λ n. Makes V path now n (e ∷ rest) (e ∷ [])) (omega arith) (ends {room = left} last)
  makes_one left (t ∷ ts) e rest on last =
      subst (λ n. Makes V path now n (t ∷ ts ++ e ∷ rest) (t ∷ ts ++ e ∷ [])) (omega arith) (passes on.0 (makes_one left ts e rest on.1 last))

  -- nothing is left
  pub seen_all : (left : ℕ) (taken : List Edge) (roles : Names) → left + length taken ≡ most_visits → AllByRecursion (PassesBy V path now) taken → visited V path ≡ taken
      → roles ≡ last_first taken → Visits V path now roles
  seen_all left taken roles used on all named = record {
    made = taken;
    makes = subst (λ es. Makes V path now most_visits es taken) (sym all) (subst (λ n. Makes V path now n taken taken) (omega (arith, used)) (makes_all left taken on));
    are = named;
  }

  -- there is no room for the next
  pub seen_first : (taken : List Edge) (e : Edge) (rest : List Edge) (roles : Names) → length taken ≡ most_visits → AllByRecursion (PassesBy V path now) taken
      → visited V path ≡ taken ++ e ∷ rest → roles ≡ last_first taken → Visits V path now roles
  seen_first taken e rest roles used on split named = record {
    made = taken;
    makes = subst (λ es. Makes V path now most_visits es taken) (sym split) (subst (λ n. Makes V path now n (taken ++ e ∷ rest) taken) used (makes_first taken e rest on));
    are = named;
  }

  -- the next one ends the search
  pub seen_one : (left : ℕ) (taken : List Edge) (e : Edge) (rest : List Edge) (roles : Names) → suc left + length taken ≡ most_visits → AllByRecursion (PassesBy V path now) taken
      → (PassesBy V path now e → ⊥) → visited V path ≡ taken ++ e ∷ rest → roles ≡ last_first (taken ++ e ∷ []) → Visits V path now roles
  seen_one left taken e rest roles used on last split named = record {
    made = taken ++ e ∷ [];
    makes = subst (λ es. Makes V path now most_visits es (taken ++ e ∷ [])) (sym split)
        (subst (λ n. Makes V path now n (taken ++ e ∷ rest) (taken ++ e ∷ [])) (omega (arith, used)) (makes_one left taken e rest on last));
    are = named;
  }

-- the names with one more
pub one_more : (met : Names) (taken : List Edge) (e : Edge) → met ≡ last_first taken → e.role ∷ met ≡ last_first (taken ++ e ∷ [])
one_more met taken e named = ap (λ names. e.role ∷ names) named ∙ sym (behind taken e)
  where
    behind : (taken : List Edge) (e : Edge) → last_first (taken ++ e ∷ []) ≡ e.role ∷ last_first taken
    behind [] e = refl
    behind (t ∷ ts) e = ap (λ names. names ++ t.role ∷ []) (behind ts e)
