-- A targets document that was vouched for is so over a shelf that holds more.
use Rattle.std.proofs.Common.{◌≡◌, ℕ, zero, suc, ◌<◌, true, false, cond, List, [], ◌∷◌, length, take, take_all, le_refl, Option, Some, None, refl, sym, ap, ◌∙◌, arith, slice_get}
use Rattle.std.specs.Prelude.{◌&&◌, option_and_then}
use Rattle.keys_roles.specs.Plain.{look_up}
use Rattle.document_parts.specs.Documents.{MetaFile, Targets}
use Rattle.metadata.specs.File.{Name, Names, File, has_name}
use Rattle.delegations.specs.Delegation.{Edge, Graph, chain_end, hops, leads}
use Rattle.delegations.specs.Rows.{Rows, has_hash, has_length, named_row, row_at}
use Rattle.delegations.specs.Search.{Good, Shelf, Vouched, doc, whole}
use Rattle.delegations.proofs.Complete.{has_hop}
use Rattle.delegations.proofs.Onward.{hops_of_doc}

-- each row is there still
abbrev pub HasRows : Rows → Rows → Type 0
HasRows rows more = (role : Name) (version : ℕ) (file : File Targets) → row_at rows role version ≡ Some file → row_at more role version ≡ Some file

none_is : {A : Type 0} (a : A) → ◌≡◌ {A = Option A} None (Some a) → ⊥
none_is a e = cc

by_hop : (g : Graph) (seen : Names) (e next : Edge) (i : ℕ) (is : List ℕ) → slice_get (hops g e.role) i ≡ Some (Some next) → has_name (e.role ∷ seen) next.role ≡ false
    → leads g seen e (i ∷ is) ≡ leads g (e.role ∷ seen) next is
by_hop g seen e next i is at fresh = rw (at, fresh) refl

module _ (V : Shelf) (more : Rows) (has : HasRows V.rows more) where
  abbrev W : Shelf
  W = record { top = V.top; listing = V.listing; rows = more }

  -- ---- documents

  named_still : (role : Name) (entry : MetaFile) (file : File Targets) → named_row V.rows role entry ≡ Some file → named_row more role entry ≡ Some file
  named_still role entry file is = by_row (row_at V.rows role entry.version) refl is
    where
      by_row : (o : Option (File Targets)) → row_at V.rows role entry.version ≡ o
          → option_and_then (λ f. cond (has_length entry f.bytes && has_hash entry f.bytes) (Some f) None) o ≡ Some file → named_row more role entry ≡ Some file
      by_row None at e = absurd (none_is file e)
      by_row (Some f) at e = ap (λ o. option_and_then (λ f. cond (has_length entry f.bytes && has_hash entry f.bytes) (Some f) None) o) (has role entry.version f at) ∙ e

  doc_still : (role : Name) (file : File Targets) → doc V role ≡ Some file → doc W role ≡ Some file
  doc_still role file is = by_entry (look_up V.listing role) is
    where
      by_entry : (o : Option MetaFile) → option_and_then (named_row V.rows role) o ≡ Some file → option_and_then (named_row more role) o ≡ Some file
      by_entry None e = e
      by_entry (Some entry) e = named_still role entry file e

  good_still : (e : Edge) (now : ℕ) → Good V e now → Good W e now
  good_still e now g = record { file = g.file; there = doc_still e.role g.file g.there; meets = g.meets; live = g.live }

  -- ---- chains

  same_hops : (role : Name) (file : File Targets) → doc V role ≡ Some file → hops (whole W) role ≡ hops (whole V) role
  same_hops role file is = hops_of_doc W (λ d. true) role file (doc_still role file is) ∙ sym (hops_of_doc V (λ d. true) role file is)

  same_way : (seen : Names) (e : Edge) (c : List ℕ) (last : Edge) → leads (whole V) seen e c ≡ Some last
      → ((k : ℕ) (x : Edge) → k < length c → leads (whole V) seen e (take k c) ≡ Some x → hops (whole W) x.role ≡ hops (whole V) x.role)
      → (k : ℕ) → leads (whole W) seen e (take k c) ≡ leads (whole V) seen e (take k c)
  same_way seen e c last is alike zero = refl
  same_way seen e [] last is alike (suc k) = refl
  same_way seen e (i ∷ c) last is alike (suc k) =
      let hop = has_hop (whole V) seen e i c last is in
      let first : hops (whole W) e.role ≡ hops (whole V) e.role = alike zero e (omega arith) refl in
      by_hop (whole W) seen e hop.next i (take k c) (ap (λ hs. slice_get hs i) first ∙ hop.at) hop.fresh
      ∙ (same_way (e.role ∷ seen) hop.next c last hop.rest
      (λ j x less at. alike (suc j) x (omega (arith, less)) (by_hop (whole V) seen e hop.next i (take j c) hop.at hop.fresh ∙ at)) k
      ∙ sym (by_hop (whole V) seen e hop.next i (take k c) hop.at hop.fresh))

  pub vouched_still : (role : Name) (new : File Targets) (now : ℕ) → Vouched V role new now → Vouched W role new now
  vouched_still role new now v =
      let c : List ℕ = v.0 in
      let old = v.1 in
      let all : take (length c) c ≡ c = take_all (length c) c (le_refl (length c)) in (
        c,
        record {
          last = old.last;
          leads = ap (λ d. chain_end (whole W) d) (sym all) ∙ (same (length c) ∙ (ap (λ d. chain_end (whole V) d) all ∙ old.leads));
          ends = old.ends;
          earlier = λ k e less at. good_still e now (old.earlier k e less (sym (same k) ∙ at));
          meets = old.meets;
        },
      )
    where
      same : (k : ℕ) → chain_end (whole W) (take k v.0) ≡ chain_end (whole V) (take k v.0)
      same k = same_way [] V.top v.0 v.1.last v.1.leads (λ j x less at. let g = v.1.earlier j x less at in same_hops x.role g.file g.there) k
