-- What the good links of a step say of its threshold, and of one another.
use Rattle.std.proofs.Common.{◌≡◌, ◌↔◌, inl, inr, ℕ, ◌<◌, ◌≤◌, List, [], ◌∷◌, length, Some, None, refl, sym, subst, ◌∙◌, arith, Contains}
use Rattle.keys_roles.specs.Plain.{Table}
use Rattle.keys_roles.specs.steps.Counting.{IsIn}
use Rattle.keys_roles.proofs.Elements.{contains_in, in_contains, for_each, of_each, in_map}
use Rattle.document_parts.specs.Documents.{Step}
use Rattle.metadata.specs.File.{File}
use Rattle.document_parts.specs.Links.{Link}
use Rattle.layouts.specs.Layouts.{AllAgree, EnoughKeys, HasLink, IsGoodBy, SameArtifacts}
use Rattle.layouts.specs.steps.Gathering.{FirstAgrees, IsEnough, MakesGood, Signed, SignsAs, Some_of, distinct_of, first_of, tops_of}
use Rattle.layouts.proofs.Counting.{are_distinct, distinct_in, in_distinct, no_more}
use Rattle.layouts.proofs.Growing.{item_some, some_item}
use Rattle.layouts.proofs.SameLinks.{any_two, first_agrees}

-- a public key of the list stands in one of its items
top_item : (goods : List Signed) (top : List ℕ) → IsIn (tops_of goods) top → (g : Signed) × IsIn goods g × (g.1 ≡ top)
top_item [] top h = absurd h
top_item (g ∷ goods) top (inl h) = (g, inl refl, h)
top_item (g ∷ goods) top (inr h) = let t = top_item goods top h in (t.0, inr t.1, t.2)

some_once : {A : Type 0} (a b : A) → Some a ≡ Some b → a ≡ b
some_once a b e = cc

first_item : (goods : List Signed) (l : Link) → first_of goods ≡ Some l → (g : Signed) × IsIn goods g × (g.0 ≡ l)
first_item [] l e = let none : None ≡ Some l = e in absurd (cc)
first_item (g ∷ goods) l e = (g, inl refl, some_once g.0 l e)

no_items : (goods : List Signed) → first_of goods ≡ None → (g : Signed) → IsIn goods g → ⊥
no_items [] e g h = h
no_items (x ∷ goods) e g h = let some : Some x.0 ≡ None = e in absurd (cc)

not_empty : (tops : List (List ℕ)) (top : List ℕ) → IsIn tops top → 0 < length tops
not_empty [] top h = absurd h
not_empty (x ∷ tops) top h = omega arith

one_in : (tops : List (List ℕ)) → 0 < length tops → (top : List ℕ) × IsIn tops top
one_in [] h = absurd (omega (arith, h))
one_in (x ∷ tops) h = (x, inl refl)

module _ (keys : Table) (step : Step) (files : List (File Link)) (goods : List Signed)
    (are : (g : Signed) → IsIn goods g ↔ Some_of (MakesGood keys step) files g) where
  -- a good link is gathered
  gathered : (file : File Link) (top : List ℕ) → Contains files file → IsGoodBy keys step file top → IsIn goods (file.body, top)
  gathered file top listed good = (are (file.body, top)).1 (item_some (MakesGood keys step) files (file.body, top) file (in_contains files file listed) (refl, good))

  -- what is gathered is good
  good_file : (g : Signed) → IsIn goods g → (file : File Link) × IsIn files file × MakesGood keys step file g
  good_file g h = some_item (MakesGood keys step) files g ((are g).0 h)

  has_link : (top : List ℕ) → IsIn (tops_of goods) top → HasLink keys files step top
  has_link top h =
      let t = top_item goods top h in
      let f = good_file t.0 t.1 in
      (f.0, contains_in files f.0 f.1, subst (λ (z : List ℕ). IsGoodBy keys step f.0 z) t.2 f.2.1)

  top_gathered : (top : List ℕ) → HasLink keys files step top → IsIn (tops_of goods) top
  top_gathered top h = in_map (λ (g : Signed). g.1) goods (h.0.body, top) (gathered h.0 top h.1 h.2)

  pub no_links : first_of goods ≡ None → EnoughKeys keys files step → ⊥
  no_links none e =
      let t = one_in e.tops e.some in
      let h = of_each (HasLink keys files step) e.tops t.0 e.each t.1 in
      no_items goods none (h.0.body, t.0) (gathered h.0 t.0 h.1 h.2)

  pub too_few : (n : ℕ) → n ≡ length (distinct_of (tops_of goods)) → n < step.rule.threshold → EnoughKeys keys files step → ⊥
  too_few n is less e =
      let most = no_more e.tops (tops_of goods) e.distinct (λ x h. top_gathered x (of_each (HasLink keys files step) e.tops x e.each h)) in
      let enough = e.enough in
      omega (arith, most, enough, is, less)

  pub enough : (n : ℕ) (l : Link) → n ≡ length (distinct_of (tops_of goods)) → step.rule.threshold ≤ n → first_of goods ≡ Some l → IsEnough keys files step l
  enough n l is more first =
      let t = first_item goods l first in
      let f = good_file t.0 t.1 in
      let top = distinct_in (tops_of goods) t.0.1 (in_map (λ (g : Signed). g.1) goods t.0 t.1) in (
        record {
          tops = distinct_of (tops_of goods);
          distinct = are_distinct (tops_of goods);
          some = not_empty (distinct_of (tops_of goods)) t.0.1 top;
          enough = omega (arith, is, more);
          each = for_each (HasLink keys files step) (distinct_of (tops_of goods)) (λ x h. has_link x (in_distinct (tops_of goods) x h));
        },
        (f.0, contains_in files f.0 f.1, (t.0.1, f.2.1), sym f.2.0 ∙ t.2),
      )

  pub agree_all : FirstAgrees goods → AllAgree keys files step
  agree_all first a b la lb ga gb = any_two goods first (a.body, ga.0) (b.body, gb.0) (gathered a ga.0 la ga.1) (gathered b gb.0 lb gb.1)

  pub all_agree : AllAgree keys files step → FirstAgrees goods
  all_agree every = first_agrees goods (λ a b ha hb.
      let f = good_file a ha in
      let g = good_file b hb in
      let same = every f.0 g.0 (contains_in files f.0 f.1) (contains_in files g.0 g.1) (a.1, f.2.1) (b.1, g.2.1) in
      subst (λ (z : Link). SameArtifacts z b.0) (sym f.2.0) (subst (λ (z : Link). SameArtifacts f.0.body z) (sym g.2.0) same))

-- ---- the ids of a rule

module _ (keys : Table) (step : Step) (file : File Link) (g : Signed) where
  pub signs_good : file.body.name ≡ step.name → Some_of (SignsAs keys file) step.rule.keyids g → MakesGood keys step file g
  signs_good named h =
      let t = some_item (SignsAs keys file) step.rule.keyids g h in
      let s = t.2.1 in
      (t.2.0, record { named = named; counts = record { id = t.0; key = s.key; of_rule = contains_in step.rule.keyids t.0 t.1; of_table = s.of_table; is_top = s.is_top; is_signed = s.is_signed } })

  pub good_signs : MakesGood keys step file g → Some_of (SignsAs keys file) step.rule.keyids g
  good_signs h =
      let c = h.1.counts in
      item_some (SignsAs keys file) step.rule.keyids g c.id (in_contains step.rule.keyids c.id c.of_rule)
      (h.0, record { key = c.key; of_table = c.of_table; is_top = c.is_top; is_signed = c.is_signed })
