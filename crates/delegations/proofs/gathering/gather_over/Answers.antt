use Rattle.std.proofs.Common.{◌≡◌, ◌↔◌, ◌⊎◌, ℕ, List, subst, ◌∙◌, Bool, true, false, not, bytes_eq, refl, sym, IfOk, IsTrue, Result, Ok, Err, Contains, map}
use Rattle.std.proofs.lemmas.Slice.Eq.{bytes_eq-Decides}
use Rattle.keys_roles.specs.Rules.{AreDistinct}
use Rattle.keys_roles.specs.Verdicts.{AreVerdicts, Pair, is_known, pairs}
use Rattle.keys_roles.specs.Plain.{Signature}
use Rattle.keys_roles.specs.Views.{entries_view, verdict_views}
use Rattle.metadata.specs.FileViews.{targets_file}
use Rattle.delegations.specs.Views.{edge_view}
use Rattle.delegations.proofs.Gathered.{with_edge}
use Rattle.delegations.proofs.gathering.gather_over.Goals as goal

all_three : {A E : Type 0} (P Q R S : A → Type 0) (r : Result A E) → ((x : A) → P x → Q x → R x → S x) → IfOk r P → IfOk r Q → IfOk r R → IfOk r S
all_three P Q R S (Ok x) so p q s = so x p q s
all_three P Q R S (Err e) so p q s = tt

not_ne : (b : Bool) → not b ≡ false → b ≡ true
not_ne true h = refl
not_ne false h = absurd (cc)

pub returns-clause-gathered : goal.returns-clause-gathered
returns-clause-gathered c =
    let file = targets_file c.args.file.now in
    let edge = edge_view c.args.edge.now in
    let old = verdict_views c.args.verdicts.items in
    let into : edge.role ≡ c.args.role.now = (bytes_eq-Decides c.args.edge.now.role.now c.args.role.now).0 (not_ne (bytes_eq c.args.edge.now.role.now c.args.role.now) (sym c.ne.ensures ∙ c.if-ne.false)) in
    all_three
    (λ vs. (p : Pair) → IsTrue (is_known (verdict_views vs.items) p) ↔ (IsTrue (is_known old p) ⊎ Contains (pairs edge.rule edge.table file.entries) p))
    (λ vs. AreVerdicts file.signed file.entries (verdict_views vs.items))
    (λ vs. AreDistinct (map (λ v. v.pair) (verdict_views vs.items)))
    _ c.with_verdicts.result
    (λ vs all sound distinct V left there g. with_edge V c.args.role.now file edge left old (verdict_views vs.items) there into all sound distinct g)
    (subst (λ (es : List Signature). IfOk c.with_verdicts.result (λ vs. (p : Pair) → IsTrue (is_known (verdict_views vs.items) p) ↔ (IsTrue (is_known old p) ⊎ Contains (pairs edge.rule edge.table es) p)))
    c.signatures.ensures.value c.with_verdicts.ensures.all)
    (subst (λ (es : List Signature). IfOk c.with_verdicts.result (λ vs. AreVerdicts file.signed es (verdict_views vs.items))) c.signatures.ensures.value
    (subst (λ (s : List ℕ). IfOk c.with_verdicts.result (λ vs. AreVerdicts s (entries_view c.signatures.result.now) (verdict_views vs.items))) c.signed.ensures c.with_verdicts.ensures.sound))
    c.with_verdicts.ensures.distinct
