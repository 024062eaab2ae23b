-- The signed part of a draft, from the steps of one.
use Rattle.std.proofs.Common.{◌≡◌, ℕ, List, [], ◌∷◌, Option, codes, get_or, ap, subst, arith}
use Rattle.canonical_json.specs.Json.{Json, HasMember}
use Rattle.document_parts.specs.declared.documents.Kind.{Kind}
use Rattle.document_parts.specs.declared.documents.Kind.TheVariants as kinds
use Rattle.drafting.specs.Members.{AlikeBut, Puts}
use Rattle.drafting.specs.Drafts.{File, Drafts, Follows, IsBase, IsNext}
use Rattle.drafting.specs.Timestamps.{DraftsTimestamp, snapshot_entry}
use Rattle.drafting.specs.Snapshots.{DraftsSnapshot}
use Rattle.drafting.specs.Targets.{Changes, DraftsTargets}
use Rattle.drafting.specs.steps.Rows.{PutsMeta, PutsTargets}
use Rattle.drafting.specs.declared.terms.Terms.{Terms}
use Rattle.drafting.proofs.Alike.{follows_on, other_head}

-- the last step puts the version and the terms
pub drafts_on : (kind : Kind) (held begun : Option File) (terms : Terms) (names : List (List ℕ)) (version : ℕ) (a b c : Json) → IsNext kind held version
    → IsBase kind held begun a → AlikeBut names a b → Follows version terms [] b c → Drafts kind held begun terms names a c
drafts_on kind held begun terms names version a b c next base alike follows = record {
  base = base;
  version = version;
  next = next;
  follows = follows_on version terms names a b c alike follows;
}

-- a member that the last step leaves alone
stays_meta : (version : ℕ) (terms : Terms) (b c x : Json) → Follows version terms [] b c → HasMember b (codes "meta") x → HasMember c (codes "meta") x
stays_meta version terms b c x f h =
    f.others.kept (codes "meta") x (other_head (codes "meta") (λ (e : 118 ≡ 109). omega (arith, e)) (λ (e : 101 ≡ 109). omega (arith, e)) (λ (e : 116 ≡ 109). omega (arith, e))) h

stays_targets : (version : ℕ) (terms : Terms) (b c x : Json) → Follows version terms [] b c → HasMember b (codes "targets") x → HasMember c (codes "targets") x
stays_targets version terms b c x f h =
    f.others.kept (codes "targets") x (
      (λ e. let d : 118 ≡ 116 = ap (λ (l : List ℕ). get_or l 0 0) e in omega (arith, d)),
      (
        (λ e. let d : 101 ≡ 116 = ap (λ (l : List ℕ). get_or l 0 0) e in omega (arith, d)),
        ((λ e. let d : 101 ≡ 97 = ap (λ (l : List ℕ). get_or l 1 0) e in omega (arith, d)), tt),
      ),
    ) h

pub timestamp_part : (held begun : Option File) (terms : Terms) (snapshot version : ℕ) (a b c x : Json) → IsNext kinds.Timestamp held version → IsBase kinds.Timestamp held begun a
    → x ≡ snapshot_entry snapshot → Puts (codes "meta") x a b → Follows version terms [] b c → DraftsTimestamp held begun terms snapshot c
timestamp_part held begun terms snapshot version a b c x next base is put follows = record {
  before = a;
  drafts = drafts_on kinds.Timestamp held begun terms (codes "meta" ∷ []) version a b c next base put.others follows;
  meta = stays_meta version terms b c (snapshot_entry snapshot) follows (subst (λ (y : Json). HasMember b (codes "meta") y) is put.has);
}

pub snapshot_part : (held begun : Option File) (terms : Terms) (roles : List (List ℕ × ℕ)) (version : ℕ) (a b c : Json) → IsNext kinds.Snapshot held version
    → IsBase kinds.Snapshot held begun a → PutsMeta roles a b → Follows version terms [] b c → DraftsSnapshot held begun terms roles c
snapshot_part held begun terms roles version a b c next base put follows = record {
  before = a;
  drafts = drafts_on kinds.Snapshot held begun terms (codes "meta" ∷ []) version a b c next base put.others follows;
  lists = record {
    old = put.lists.old;
    new = put.lists.new;
    was = put.lists.was;
    meta = stays_meta version terms b c put.lists.new follows put.lists.meta;
    puts = put.lists.puts;
  };
}

pub targets_part : (held begun : Option File) (terms : Terms) (changes : Changes) (version : ℕ) (a b c : Json) → IsNext kinds.Targets held version
    → IsBase kinds.Targets held begun a → PutsTargets changes a b → Follows version terms [] b c → DraftsTargets held begun terms changes c
targets_part held begun terms changes version a b c next base put follows = record {
  before = a;
  drafts = drafts_on kinds.Targets held begun terms (codes "targets" ∷ []) version a b c next base put.others follows;
  changes_targets = record {
    old = put.makes.old;
    between = put.makes.between;
    new = put.makes.new;
    was = put.makes.was;
    removes = put.makes.removes;
    adds = put.makes.adds;
    targets = stays_targets version terms b c put.makes.new follows put.makes.targets;
  };
}
