-- A rule over LMS keys alone is met as it was before there were others.
use Rattle.std.proofs.Common.{◌≡◌, ◌↔◌, ℕ, List, [], ◌∷◌, Some, refl, sym, ap, subst, ◌∙◌}
use Rattle.std.specs.List.{AllByRecursion}
use Rattle.keys_roles.specs.Plain.{lms, Table, RoleRule, Signature}
use Rattle.keys_roles.specs.Keys.{top_key}
use Rattle.keys_roles.specs.Rules.{IsSigned, Counts, Meets}
use Rattle.keys_roles.specs.BeforeLevels.{WasSigned, Counted, WasMet, NamesLms}

each_as : {X : Type 0} (P Q : X → Type 0) → ((x : X) → P x → Q x) → (xs : List X) → AllByRecursion P xs → AllByRecursion Q xs
each_as P Q f [] h = tt
each_as P Q f (x ∷ xs) h = (f x h.0, each_as P Q f xs h.1)

was_signed : (public id signed : List ℕ) (entries : List Signature) → IsSigned (lms public) id signed entries → WasSigned public id signed entries
was_signed public id signed entries s = record {
  entry = s.entry;
  signature = s.signature;
  listed = s.listed;
  same_id = s.same_id;
  digits = s.digits;
  verifies = s.verifies;
}

is_signed : (public id signed : List ℕ) (entries : List Signature) → WasSigned public id signed entries → IsSigned (lms public) id signed entries
is_signed public id signed entries s = record {
  entry = s.entry;
  signature = s.signature;
  listed = s.listed;
  same_id = s.same_id;
  digits = s.digits;
  verifies = s.verifies;
}

module _ (rule : RoleRule) (table : Table) (signed : List ℕ) (entries : List Signature) where
  counted : NamesLms rule table → (top : List ℕ) → Counts rule table signed entries top → Counted rule table signed entries top
  counted names top c =
      let lms_key = names c.id c.key c.of_rule c.of_table in
      let key : c.key ≡ lms top = lms_key.1 ∙ ap lms (sym (ap top_key lms_key.1) ∙ c.is_top) in
      record {
        id = c.id;
        of_rule = c.of_rule;
        of_table = c.of_table ∙ ap Some key;
        was_signed = was_signed top c.id signed entries (subst (λ k. IsSigned k c.id signed entries) key c.is_signed);
      }

  counts : (public : List ℕ) → Counted rule table signed entries public → Counts rule table signed entries public
  counts public c = record {
    id = c.id;
    key = lms public;
    of_rule = c.of_rule;
    of_table = c.of_table;
    is_top = refl;
    is_signed = is_signed public c.id signed entries c.was_signed;
  }

  pub as_before : NamesLms rule table → Meets rule table signed entries ↔ WasMet rule table signed entries
  as_before names = (
    λ m. record {
      keys = m.keys;
      distinct = m.distinct;
      enough = m.enough;
      each = each_as (Counts rule table signed entries) (Counted rule table signed entries) (counted names) m.keys m.each;
    },
    λ m. record {
      keys = m.keys;
      distinct = m.distinct;
      enough = m.enough;
      each = each_as (Counted rule table signed entries) (Counts rule table signed entries) counts m.keys m.each;
    },
  )
