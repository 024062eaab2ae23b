-- The delegations of a draft, step by step.
use Rattle.std.proofs.Common.{◌≡◌, ◌≢◌, ℕ, List, [], ◌∷◌, Option, codes, map, refl, sym, subst, arith}
use Rattle.std.specs.List.{AllByRecursion}
use Rattle.canonical_json.specs.Json.{Json, array, HasMember}
use Rattle.canonical_json.specs.View.{items_of, items_view, view}
use Rattle.canonical_json.specs.declared.Value.{Value}
use Rattle.document_parts.specs.declared.documents.Kind.TheVariants as kinds
use Rattle.chain_drafting.specs.Delegations.{AreIn, Changes, Delegated, DraftsDelegations, IsTo, PutsEach, HoldsDelegations, HoldsOrLacks, by_role, delegation_names, key_rows, name_rows}
use Rattle.drafting.specs.Drafts.{File, Follows, IsBase, IsNext}
use Rattle.drafting.specs.Members.{IsNoneOf, AlikeBut, Drops, IsListAt, IsObjectAt, Puts, Rows, without}
use Rattle.drafting.specs.Roots.{PutsTable}
use Rattle.drafting.specs.Targets.{IsThere, RemovesAll}
use Rattle.chain_drafting.specs.steps.Delegated.{PutsDelegations, PutsOrDrops}
use Rattle.drafting.specs.steps.Rows.{rows_view}
use Rattle.drafting.specs.steps.Rules.{PutsOne}
use Rattle.drafting.specs.declared.terms.Terms.{Terms}
use Rattle.drafting.proofs.Alike.{other_head}
use Rattle.drafting.proofs.Parts.{drafts_on}
use Rattle.chain_drafting.proofs.RoleRows.{shown_by_role}
use Rattle.drafting.proofs.RootParts.{differ, object_alike, other_names, roles_keys, table_stays}
use Rattle.drafting.proofs.Rows.{Row, shown}

delegations_names : codes "delegations" ≢ codes "names"
delegations_names = differ (codes "delegations") (codes "names") (λ (e : 100 ≡ 110). omega (arith, e))

names_delegations : codes "names" ≢ codes "delegations"
names_delegations = differ (codes "names") (codes "delegations") (λ (e : 110 ≡ 100). omega (arith, e))

-- ---- the delegations that are read

pub are_in : (delegations : Json) (found : List Value) (ms : List Row) → IsListAt delegations (codes "roles") (items_view found)
    → map (λ r. r.1) (rows_view ms) ≡ map view found → AllByRecursion IsTo (rows_view ms) → AreIn delegations (rows_view ms)
are_in delegations found ms at same named = record {
  are = subst (λ (vs : List Json). IsListAt delegations (codes "roles") (items_of vs)) (sym same) at;
  named = named;
}

-- ---- the delegations that are put

-- delegations come into a signed part, beside what else `delegations` has, and nothing else changes
pub record PutsStanding (delegated : List Delegated) (rows : Rows) (inner before after : Json) : Type 0 where
  pub stands : HoldsDelegations delegated rows inner before after
  pub others : AlikeBut delegation_names before after

pub standing : (delegated : List Delegated) (ms : List Row) (i j k b c d : Json) (vs : List Value) → PutsOne (codes "keys") (key_rows delegated) (shown ms) i j
    → PutsOne (codes "names") (name_rows delegated) (shown ms) b c → map view vs ≡ map (λ r. r.1) (rows_view ms) → Puts (codes "roles") (array (items_view vs)) j k
    → Puts (codes "delegations") k c d → PutsStanding delegated (rows_view ms) i b d
standing delegated ms i j k b c d vs keys names same roles put = record {
  stands = record {
    new = k;
    has = put.has;
    roles = subst (λ (l : List Json). HasMember k (codes "roles") (array (items_of l))) same roles.has;
    keys = subst (λ (r : Json). PutsTable (codes "keys") (key_rows delegated) r i k) (shown_by_role ms) (record {
      old = keys.table.old;
      new = keys.table.new;
      was = keys.table.was;
      has = roles.others.kept (codes "keys") keys.table.new (roles_keys, tt) keys.table.has;
      table = keys.table.table;
    });
    others = record {
      kept = λ n x other h. roles.others.kept n x (other.0, tt) (keys.others.kept n x (other.1.0, tt) h);
      no_more = λ n x other h. keys.others.no_more n x (other.1.0, tt) (roles.others.no_more n x (other.0, tt) h);
    };
    names = subst (λ (r : Json). PutsTable (codes "names") (name_rows delegated) r b d) (shown_by_role ms) (record {
      old = names.table.old;
      new = names.table.new;
      was = names.table.was;
      has = put.others.kept (codes "names") names.table.new (delegations_names, tt) names.table.has;
      table = names.table.table;
    });
  };
  others = record {
    kept = λ n x other h. put.others.kept n x (other.0, tt) (names.others.kept n x (other.1.0, tt) h);
    no_more = λ n x other h. names.others.no_more n x (other.1.0, tt) (put.others.no_more n x (other.0, tt) h);
  };
}

pub dropped : (delegated : List Delegated) (rows : Rows) (inner a b c : Json) → rows ≡ [] → Drops (codes "delegations") a b → Drops (codes "names") b c
    → PutsOrDrops delegated rows inner a c
dropped delegated [] inner a b c is p q = record {
  stands = ((λ x h. p.none x (q.others.no_more (codes "delegations") x (names_delegations, tt) h)), q.none);
  others = record {
    kept = λ n x other h. q.others.kept n x (other.1.0, tt) (p.others.kept n x (other.0, tt) h);
    no_more = λ n x other h. p.others.no_more n x (other.0, tt) (q.others.no_more n x (other.1.0, tt) h);
  };
}
dropped delegated (r ∷ rows) inner a b c is p q = absurd (cc)

pub put_any : (delegated : List Delegated) (rows : Rows) (inner a b : Json) → (rows ≡ [] → ⊥) → PutsStanding delegated rows inner a b → PutsOrDrops delegated rows inner a b
put_any delegated [] inner a b some p = absurd (some refl)
put_any delegated (r ∷ rows) inner a b some p = record { stands = p.stands; others = p.others }

-- ---- all that changes

-- what the delegations and the signed part were before their members were taken out
moved : (delegated : List Delegated) (rows : Rows) (old inner a b c : Json) → AlikeBut (codes "roles" ∷ []) old inner → AlikeBut (codes "delegations" ∷ []) a b
    → HoldsOrLacks delegated rows inner b c → HoldsOrLacks delegated rows old a c
moved delegated [] old inner a b c p q s = s
moved delegated (r ∷ rows) old inner a b c p q s = record {
  new = s.new;
  has = s.has;
  roles = s.roles;
  keys = record {
    old = s.keys.old;
    new = s.keys.new;
    was = object_alike (codes "roles" ∷ []) old inner (codes "keys") s.keys.old p (roles_keys, tt) s.keys.was;
    has = s.keys.has;
    table = s.keys.table;
  };
  others = record {
    kept = λ n x other h. s.others.kept n x other (p.kept n x (other.0, tt) h);
    no_more = λ n x other h. p.no_more n x (other.0, tt) (s.others.no_more n x other h);
  };
  names = record {
    old = s.names.old;
    new = s.names.new;
    was = object_alike (codes "delegations" ∷ []) a b (codes "names") s.names.old q (delegations_names, tt) s.names.was;
    has = s.names.has;
    table = s.names.table;
  };
}

pub delegations_put : (changes : Changes) (old inner a b c : Json) (first between last : List Row) → IsObjectAt a (codes "delegations") old
    → AlikeBut (codes "delegations" ∷ []) a b → AreIn old (rows_view first) → AlikeBut (codes "roles" ∷ []) old inner
    → RemovesAll changes.undelegated (shown first) (shown between) → rows_view between ≡ without changes.undelegated (rows_view first)
    → PutsEach changes.delegated (rows_view between) (rows_view last) → PutsOrDrops changes.delegated (rows_view last) inner b c → PutsDelegations changes a c
delegations_put changes old inner a b c first between last was alike listed inside removes rest puts stands = record {
  makes = record {
    old = old;
    first = rows_view first;
    between = rows_view between;
    last = rows_view last;
    was = was;
    listed = listed;
    undelegates = record {
      were = subst (λ (v : Json). AllByRecursion (IsThere v) changes.undelegated) (shown_by_role first) removes.listed;
      distinct = removes.distinct;
      are = rest;
    };
    puts = puts;
    stands = moved changes.delegated (rows_view last) old inner a b c inside alike stands.stands;
  };
  others = record {
    kept = λ n x other h. stands.others.kept n x other (alike.kept n x (other.0, tt) h);
    no_more = λ n x other h. alike.no_more n x (other.0, tt) (stands.others.no_more n x other h);
  };
}

-- ---- the signed part

other_delegations : IsNoneOf (codes "version" ∷ codes "expires" ∷ codes "term" ∷ []) (codes "delegations")
other_delegations = other_head (codes "delegations") (λ (e : 118 ≡ 100). omega (arith, e)) (λ (e : 101 ≡ 100). omega (arith, e)) (λ (e : 116 ≡ 100). omega (arith, e))

stays : (delegated : List Delegated) (rows : Rows) (version : ℕ) (terms : Terms) (old a b c : Json) → Follows version terms [] b c → HoldsOrLacks delegated rows old a b
    → HoldsOrLacks delegated rows old a c
stays delegated [] version terms old a b c f s =
    ((λ x h. s.0 x (f.others.no_more (codes "delegations") x other_delegations h)), λ x h. s.1 x (f.others.no_more (codes "names") x other_names h))
stays delegated (r ∷ rows) version terms old a b c f s = record {
  new = s.new;
  has = f.others.kept (codes "delegations") s.new other_delegations s.has;
  roles = s.roles;
  keys = s.keys;
  others = s.others;
  names = table_stays version terms a b c (codes "names") (name_rows delegated) (by_role (r ∷ rows)) other_names f s.names;
}

pub delegations_part : (held begun : Option File) (terms : Terms) (changes : Changes) (version : ℕ) (a b c : Json) → IsNext kinds.Targets held version
    → IsBase kinds.Targets held begun a → PutsDelegations changes a b → Follows version terms [] b c → DraftsDelegations held begun terms changes c
delegations_part held begun terms changes version a b c next base put follows = record {
  before = a;
  drafts = drafts_on kinds.Targets held begun terms delegation_names version a b c next base put.others follows;
  makes = record {
    old = put.makes.old;
    first = put.makes.first;
    between = put.makes.between;
    last = put.makes.last;
    was = put.makes.was;
    listed = put.makes.listed;
    undelegates = put.makes.undelegates;
    puts = put.makes.puts;
    stands = stays changes.delegated put.makes.last version terms put.makes.old a b c follows put.makes.stands;
  };
}
