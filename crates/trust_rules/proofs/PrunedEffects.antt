-- The changes that a prune makes.
use Rattle.std.proofs.Common.{◌≡◌, ℕ, ◌-◌, Bool, true, false, ◌&&◌, ◌||◌, not, List, [], ◌∷◌, filter, length, Option, Some, None, Ok, refl, sym, ap, ◌∙◌, subst, bytes_eq, append-nil}
use Rattle.std.proofs.lemmas.Bool.{true≢false}
use Rattle.std.proofs.lemmas.List.{length-map}
use Rattle.std.specs.Prelude.{IsSome, is_some, option_map}
use Rattle.std.specs.List.{list_any}
use Rattle.document_parts.specs.Documents.{Listing, Targets, Profile}
use Rattle.metadata.specs.File.{Bytes, File}
use Rattle.repository_rows.specs.Contents.{lengths_of}
use Rattle.denials.specs.Orders.{holds, given, pass}
use Rattle.delegations.specs.Rows.{Place, Rows, same_place}
use Rattle.delegations.proofs.KeyOrder.{place_one}
use Rattle.trust_rules.specs.Offers.{is_listed, is_wanted, kept_blobs, kept_rows, prune, pruned}
use Rattle.trust_rules.specs.Effects.{Effects, applied, brought, no_effects, without}
use Rattle.trust_rules.specs.Held.{Held, held_of}
use Rattle.trust_rules.specs.State.{State, Trusted}
use Rattle.trust_rules.specs.steps.Pruning.{digests_of, without_listed, gone_of, unlisted_places, unwanted_digests}
use Rattle.trust_rules.proofs.GoneKeys.{all_pass, each_so, filter_both, filter_counts, filter_so, is_among, without_failing, without_is}
use Rattle.trust_rules.proofs.PrunedStates.{bytes_itself, bytes_one, place_self}

rows_left : (T : Trusted) → without same_place T.shelf (unlisted_places T.snapshot T.shelf) ≡ kept_rows T
rows_left T = without_failing same_place place_one place_self (λ place. is_listed T.snapshot place) T.shelf

pub brought_so : (H : Held) → brought H.trusted (record no_effects { gone = gone_of H }) ≡ record H.trusted { shelf = kept_rows H.trusted }
brought_so H =
    let T : Trusted = H.trusted in
    ap (λ (roots : List (Profile × Bytes)). record T { roots = roots; shelf = without same_place T.shelf (unlisted_places T.snapshot T.shelf) }) (append-nil T.roots)
    ∙ ap (λ (shelf : Rows). record T { shelf = shelf }) (rows_left T)

pub brought_pruned : (H : Held) (E : Effects) → E ≡ record no_effects { gone = gone_of H } → record H.trusted { shelf = kept_rows H.trusted } ≡ brought H.trusted E
brought_pruned H E is = sym (ap (λ (F : Effects). brought H.trusted F) is ∙ brought_so H)

unwanted_same : (rows : Rows) (blobs : List (Bytes × Bytes)) → unwanted_digests rows (lengths_of blobs) ≡ unwanted_digests rows blobs
unwanted_same rows [] = refl
unwanted_same rows (b ∷ bs) = at (is_wanted rows b.0) refl (unwanted_same rows bs)
  where
    at : (t : Bool) → is_wanted rows b.0 ≡ t → unwanted_digests rows (lengths_of bs) ≡ unwanted_digests rows bs
        → unwanted_digests rows (lengths_of (b ∷ bs)) ≡ unwanted_digests rows (b ∷ bs)
    at true e later = rw e later
    at false e later = rw e (ap (λ (l : List Bytes). b.0 ∷ l) later)

blobs_left : (S : State) → without bytes_eq S.blobs (gone_of (held_of S)).blobs ≡ kept_blobs (kept_rows S.trusted) S.blobs
blobs_left S =
    ap (λ (keys : List Bytes). without bytes_eq S.blobs keys) (unwanted_same (kept_rows S.trusted) S.blobs)
    ∙ without_failing bytes_eq bytes_one bytes_itself (λ digest. is_wanted (kept_rows S.trusted) digest) S.blobs

applied_so : (S : State) → applied S (record no_effects { gone = gone_of (held_of S) }) ≡ pruned S
applied_so S =
    ap (λ (T : Trusted). record { trusted = T; blobs = without bytes_eq S.blobs (gone_of (held_of S)).blobs }) (brought_so (held_of S))
    ∙ ap (λ (blobs : List (Bytes × Bytes)). record { trusted = record S.trusted { shelf = kept_rows S.trusted }; blobs = blobs }) (blobs_left S)

-- they make the pruned state
pub applied_pruned : (H : Held) (E : Effects) (S : State) → held_of S ≡ H → E ≡ record no_effects { gone = gone_of H } → pruned S ≡ applied S E
applied_pruned H E S held is =
    sym (ap (λ (F : Effects). applied S F) (is ∙ ap (λ (G : Held). record no_effects { gone = gone_of G }) (sym held)) ∙ applied_so S)

pub prune_makes : (H : Held) (E : Effects) (S : State) → held_of S ≡ H → E ≡ record no_effects { gone = gone_of H } → IsSome S.trusted.root → prune S (Ok (applied S E))
prune_makes H E S held is there = subst (λ (T : State). prune S (Ok T)) (applied_pruned H E S held is) (pass (holds there) given)

-- ---- what no row lists

any_map : (ls : List Listing) (digest : Bytes) → list_any (λ key. bytes_eq digest key) (digests_of ls) ≡ list_any (λ l. bytes_eq digest l.digest) ls
any_map [] digest = refl
any_map (l ∷ ls) digest = ap (λ (b : Bool). bytes_eq digest l.digest || b) (any_map ls digest)

not_or : (a b : Bool) → not a && not b ≡ not (a || b)
not_or true b = refl
not_or false b = refl

pub without_listed_is : (rows : Rows) (blobs : List (Bytes × ℕ)) → without_listed blobs rows ≡ filter (λ b. not (is_wanted rows b.0)) blobs
without_listed_is [] blobs = sym (all_pass (λ (b : Bytes × ℕ). not (is_wanted [] b.0)) blobs (each_so (λ (b : Bytes × ℕ). not (is_wanted [] b.0) ≡ true) (λ b. refl) blobs))
without_listed_is (row ∷ rows) blobs =
    let listed = digests_of row.1.body.targets in
    without_listed_is rows (without bytes_eq blobs listed)
    ∙ ap (λ (l : List (Bytes × ℕ)). filter (λ b. not (is_wanted rows b.0)) l) (without_is bytes_eq blobs listed)
    ∙ filter_both (λ (b : Bytes × ℕ). not (is_among bytes_eq listed b.0)) (λ (b : Bytes × ℕ). not (is_wanted rows b.0)) blobs
    ∙ filter_so (λ (b : Bytes × ℕ). not (is_among bytes_eq listed b.0) && not (is_wanted rows b.0)) (λ (b : Bytes × ℕ). not (is_wanted (row ∷ rows) b.0)) blobs
    (each_so (λ (b : Bytes × ℕ). (not (is_among bytes_eq listed b.0) && not (is_wanted rows b.0)) ≡ not (is_wanted (row ∷ rows) b.0))
    (λ b. not_or (is_among bytes_eq listed b.0) (is_wanted rows b.0) ∙ ap (λ (x : Bool). not (x || is_wanted rows b.0)) (any_map row.1.body.targets b.0)) blobs)

-- ---- how many go

pub rows_counted : (H : Held) (E : Effects) → E ≡ record no_effects { gone = gone_of H } → length H.trusted.shelf - length (brought H.trusted E).shelf ≡ length E.gone.rows
rows_counted H E is =
    let T : Trusted = H.trusted in
    ap (λ (U : Trusted). length T.shelf - length U.shelf) (sym (brought_pruned H E is))
    ∙ filter_counts (λ (row : Place × File Targets). is_listed T.snapshot row.0) T.shelf
    ∙ sym (length-map (filter (λ (row : Place × File Targets). not (is_listed T.snapshot row.0)) T.shelf) (λ row. row.0))
    ∙ ap (λ (F : Effects). length F.gone.rows) (sym is)

pub blobs_counted : (S : State) (E : Effects) → E ≡ record no_effects { gone = gone_of (held_of S) } → length S.blobs - length (applied S E).blobs ≡ length E.gone.blobs
blobs_counted S E is =
    let rows : Rows = kept_rows S.trusted in
    ap (λ (U : State). length S.blobs - length U.blobs) (sym (applied_pruned (held_of S) E S refl is))
    ∙ filter_counts (λ (b : Bytes × Bytes). is_wanted rows b.0) S.blobs
    ∙ sym (length-map (filter (λ (b : Bytes × Bytes). not (is_wanted rows b.0)) S.blobs) (λ b. b.0))
    ∙ ap (λ (keys : List Bytes). length keys) (sym (unwanted_same rows S.blobs))
    ∙ ap (λ (F : Effects). length F.gone.blobs) (sym is)

-- ---- whether a root is there

root_at : {A B : Type 0} (f : A → B) (o : Option A) → is_some o ≡ true → IsSome (option_map f o)
root_at f None e = absurd (true≢false (sym e))
root_at f (Some a) e = refl

pub root_is : {A B : Type 0} (f : A → B) (o : Option A) (p : Option B) → option_map f o ≡ p → is_some o ≡ true → IsSome p
root_is f o p e h = subst (λ q. IsSome q) e (root_at f o h)

root_not_at : {A B : Type 0} (f : A → B) (o : Option A) → is_some o ≡ false → ¬ IsSome (option_map f o)
root_not_at f None e h = true≢false (sym h)
root_not_at f (Some a) e h = true≢false e

pub root_is_not : {A B : Type 0} (f : A → B) (o : Option A) (p : Option B) → option_map f o ≡ p → is_some o ≡ false → ¬ IsSome p
root_is_not f o p e h = subst (λ q. ¬ IsSome q) e (root_not_at f o h)
