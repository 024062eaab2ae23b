-- How a walk that judges as it goes, and makes so many visits at most, answers the search over the list of its visits.
use Rattle.std.proofs.Common.{◌≡◌, ℕ, zero, suc, List, [], ◌∷◌, ◌++◌, Some, None, Ok, Err, arith, append_assoc, length-append}
use Rattle.document_parts.specs.Documents.{Targets, Listing}
use Rattle.metadata.specs.File.{Bytes, File}
use Rattle.denials.specs.Orders.{Judged, Stop, Denied, Plain, pass, decide, given, stopped}
use Rattle.delegations.specs.Delegation.{Edge}
use Rattle.delegations.specs.steps.Course.{Decides, Exhausts, Passes}
use Rattle.delegations.specs.Search.{Shelf, Found, visit, listing_of}

module _ (V : Shelf) (path : Bytes) (now : ℕ) where
  -- one visit
  pub denied_here : (room : ℕ) (e : Edge) (es : List Edge) (s : Stop) → visit V e now (Err s) → Decides V path now (suc room) (e ∷ es) (Err s)
  denied_here room e es s h = λ more k. decide h

  pub found_here : (room : ℕ) (e : Edge) (es : List Edge) (file : File Targets) (l : Listing)
      → visit V e now (Ok file) → listing_of file.body path ≡ Some l → Decides V path now (suc room) (e ∷ es) (Ok (record { role = e.role; listing = l }))
  found_here room e es file l h is = λ more k. pass h (rw is given)

  pub passes_here : (room : ℕ) (e : Edge) (file : File Targets)
      → visit V e now (Ok file) → listing_of file.body path ≡ None → Passes V path now (suc room) (e ∷ []) room
  passes_here room e file h is = record { used = omega arith; on = λ more k j next. pass h (rw is next) }

  pub no_room : (e : Edge) (es : List Edge) → Exhausts V path now zero (e ∷ es)
  no_room e es = record { many = omega arith; on = λ more k. stopped }

  pub no_visit : (room : ℕ) → Passes V path now room [] room
  no_visit room = record { used = omega arith; on = λ more k j h. h }

  -- visits that pass, and then others
  pub then_decides : (room left : ℕ) (xs ys : List Edge) (j : Judged Found) → Passes V path now room xs left → Decides V path now left ys j → Decides V path now room (xs ++ ys) j
  then_decides room left xs ys j p d = λ more k. rw (append_assoc xs ys more) (p.on (ys ++ more) k j (d more k))

  pub then_exhausts : (room left : ℕ) (xs ys : List Edge) → Passes V path now room xs left → Exhausts V path now left ys → Exhausts V path now room (xs ++ ys)
  then_exhausts room left xs ys p d = record {
    many = rw (length-append xs ys) (omega (arith, p.used, d.many));
    on = λ more k. rw (append_assoc xs ys more) (p.on (ys ++ more) k (Err (Denied (Plain k))) (d.on more k));
  }

  pub then_passes : (room middle left : ℕ) (xs ys : List Edge) → Passes V path now room xs middle → Passes V path now middle ys left → Passes V path now room (xs ++ ys) left
  then_passes room middle left xs ys p d = record {
    used = rw (length-append xs ys) (omega (arith, p.used, d.used));
    on = λ more k j h. rw (append_assoc xs ys more) (p.on (ys ++ more) k j (d.on more k j h));
  }

  -- more visits change nothing where the first ones decide or are too many
  pub still_decides : (room : ℕ) (xs ys : List Edge) (j : Judged Found) → Decides V path now room xs j → Decides V path now room (xs ++ ys) j
  still_decides room xs ys j d = λ more k. rw (append_assoc xs ys more) (d (ys ++ more) k)

  pub still_exhausts : (room : ℕ) (xs ys : List Edge) → Exhausts V path now room xs → Exhausts V path now room (xs ++ ys)
  still_exhausts room xs ys d = record {
    many = rw (length-append xs ys) (omega (arith, d.many));
    on = λ more k. rw (append_assoc xs ys more) (d.on (ys ++ more) k);
  }
