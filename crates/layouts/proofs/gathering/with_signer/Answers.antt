use Rattle.std.proofs.Common.{◌≡◌, ◌↔◌, ◌⊎◌, List, Some, None, refl, sym, ap, subst, ◌∙◌}
use Rattle.std.proofs.lemmas.List.{map-append}
use Rattle.keys_roles.specs.steps.Counting.{IsIn}
use Rattle.keys_roles.specs.Views.{id_text, table_view}
use Rattle.metadata.specs.FileViews.{link_file}
use Rattle.document_parts.specs.RuleViews.{link_view}
use Rattle.layouts.specs.steps.Gathering.{Signed, SignsAs, good_view, goods_view}
use Rattle.layouts.proofs.Growing.{added, kept, pair_is}
use Rattle.layouts.proofs.gathering.with_signer.Goals as goal

some_once : {A : Type 0} (a b : A) → Some a ≡ Some b → a ≡ b
some_once a b e = cc

none_some : {A : Type 0} (a : A) → None ≡ Some a → ⊥
none_some a e = absurd (cc)

pub returns-in_default : goal.returns-in_default
returns-in_default c =
    let signs = rw c.in_default.is at c.in_ok-top.ensures in
    kept (SignsAs (table_view c.args.keys.now) (link_file c.args.file.now) (id_text c.args.id.now)) (goods_view c.args.goods.items)
    (λ g h. none_some g.1 ((signs g.1).1 h.1))

pub returns : goal.returns
returns c =
    let signs = rw c.in-Some.is at c.in_ok-top.ensures in
    let P = SignsAs (table_view c.args.keys.now) (link_file c.args.file.now) (id_text c.args.id.now) in
    let new : Signed = (link_view c.args.file.now.body, c.in-Some.top) in
    let more = added P (goods_view c.args.goods.items) new (refl, (signs c.in-Some.top).0 refl)
    (λ g h. pair_is g new h.0 (sym (some_once c.in-Some.top g.1 ((signs g.1).1 h.1)))) in
    let items = ap goods_view c.in_ok-push.ensures.items ∙ map-append good_view c.args.goods.items _ in
    subst (λ (xs : List Signed). (g : Signed) → IsIn xs g ↔ (IsIn (goods_view c.args.goods.items) g ⊎ P g)) (sym items) more
