-- A snapshot lists roles by their names, each once.
use Rattle.std.proofs.Common.{◌≡◌, ◌≢◌, ℕ, List, [], ◌∷◌, ◌++◌, map, codes, sym, ap, ◌∙◌, subst}
use Rattle.std.specs.List.{AllByRecursion}
use Rattle.std.proofs.lemmas.Cmp.{nat_list_cmp_total}
use Rattle.canonical_json.specs.Json.{Json, Members, no_members, member, names}
use Rattle.canonical_json.specs.Spelling.{IsBefore, AreRising, IsProper}
use Rattle.keys_roles.specs.Rules.{AreDistinct}
use Rattle.path_patterns.specs.Grammar.{IsName}
use Rattle.document_parts.specs.Documents.{Snapshot, MetaFile}
use Rattle.document_parts.specs.Members.{MembersAre}
use Rattle.document_parts.specs.Bodies.{IsMetaRow, IsListable, AreMetaRows}
use Rattle.metadata.specs.Shape.{kind_name}
use Rattle.metadata.specs.File.{Name, File, IsFileOf, snapshot_form}
use Rattle.document_parts.specs.declared.documents.Kind.TheVariants as kinds
use Rattle.document_parts.proofs.Once.{not-before, member_proper}
use Rattle.metadata.proofs.OneDocument.{envelope-once}

-- ---- each once: a file's members rise by their names

skip : (n m : List ℕ) (ms : Members) → AreRising (n ∷ m ∷ names ms) → AreRising (n ∷ names ms)
skip n m no_members r = tt
skip n m (member k v ms) r = (nat_list_cmp_total.trans n m k r.0 r.1.0, r.1.1)

rest : (n : List ℕ) (ms : Members) → AreRising (n ∷ names ms) → AreRising (names ms)
rest n no_members r = tt
rest n (member m v ms) r = r.1

behind : (n : List ℕ) (role : Name) → n ≡ role ++ codes ".json" → (ms : Members) (xs : List (Name × MetaFile))
    → AreRising (n ∷ names ms) → MembersAre IsMetaRow ms xs → AllByRecursion (λ y. role ≢ y) (map (λ e. e.0) xs)
behind n role named no_members [] r h = tt
behind n role named no_members (x ∷ xs) r h = absurd h
behind n role named (member m v ms) [] r h = tt
behind n role named (member m v ms) (x ∷ xs) r h = (
  (λ same. not-before n (subst (λ (z : List ℕ). IsBefore n z) (h.0.0 ∙ (ap (λ (z : Name). z ++ codes ".json") (sym same) ∙ sym named)) r.0)),
  behind n role named ms xs (skip n m ms r) h.1,
)

distinct : (ms : Members) (xs : List (Name × MetaFile)) → AreRising (names ms) → MembersAre IsMetaRow ms xs → AreDistinct (map (λ e. e.0) xs)
distinct no_members [] r h = tt
distinct no_members (x ∷ xs) r h = absurd h
distinct (member m v ms) [] r h = tt
distinct (member m v ms) (x ∷ xs) r h = (behind m x.0 h.0.0 ms xs r h.1, distinct ms xs (rest m ms r) h.1)

distinct_rows : (v : Json) (xs : List (Name × MetaFile)) → IsProper v → AreMetaRows v xs → AreDistinct (map (λ e. e.0) xs)
distinct_rows v xs p rows =
    distinct rows.each.0 xs (subst (λ (z : Json). IsProper z) rows.each.1 p).0.1 rows.each.2

-- ---- by names

named : (ms : Members) (xs : List (Name × MetaFile)) → MembersAre IsMetaRow ms xs → AllByRecursion (λ e. IsListable e.0) xs
    → AllByRecursion (λ e. IsName e.0 × IsListable e.0) xs
named no_members [] h l = tt
named no_members (x ∷ xs) h l = absurd h
named (member m v ms) [] h l = tt
named (member m v ms) (x ∷ xs) h l = ((h.0.1, l.0), named ms xs h.1 l.1)

-- ---- of a file

part_proper : (f : File Snapshot) → (d : IsFileOf snapshot_form f) → IsProper d.read.part
part_proper f d =
    let t = kind_name kinds.Snapshot in
    let file = d.read.file in
    let same = envelope-once file.value f.entries f.entries d.read.part d.read.part t t file.file.canonical.allowed.proper file.envelope file.envelope in
    same.proper

pub snapshot_distinct : (f : File Snapshot) → IsFileOf snapshot_form f → AreDistinct (map (λ e. e.0) f.body.meta)
snapshot_distinct f d =
    let meta = d.read.body.meta in
    distinct_rows meta.0 f.body.meta (member_proper d.read.part (codes "meta") meta.0 (part_proper f d) meta.1) meta.2

pub snapshot_listed : (f : File Snapshot) → IsFileOf snapshot_form f → AllByRecursion (λ e. IsName e.0 × IsListable e.0) f.body.meta
snapshot_listed f d =
    let rows = d.read.body.meta.2 in
    named rows.each.0 f.body.meta rows.each.2 rows.listable
