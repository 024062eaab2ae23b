use Rattle.std.proofs.Common.{ℕ, List, ◌≡◌, ap, sym, subst, ◌∙◌}
use Rattle.lms.specs.declared.Params.{Params}
use Rattle.keys_roles.specs.Keys.{id_of}
use Rattle.keys_roles.specs.Plain.{lms}
use Rattle.keys_roles.specs.Views.{id_text}
use Rattle.leaf_plans.specs.Book.{IsRegistered, Signer, key_of}
use Rattle.leaf_book.proofs.Trees.{each_way}
use Rattle.leaf_book.proofs.book.Book.has_tree.Goals as goal

pub returns-in-Some : goal.returns-in-Some
returns-in-Some g c =
    let b = c.args.self.now.book in
    let params = c.args.params in
    let same : id_text c.key_by-key.result ≡ key_of c.args.seed.now params = c.key_by-key.ensures ∙ ap (λ (p : List ℕ). id_of (lms p)) c.public_of.ensures in
    each_way _ _ _ _ c.same_params.result c.same_params.ensures
    (λ is. subst (λ (k : List ℕ). IsRegistered b k params) same (subst (λ (p : Params). IsRegistered b (id_text c.key_by-key.result) p) is c.in-Some.ensures))
    (λ differs h. differs (ap (λ (s : Signer). s.params) (c.rests.ensures.right.one_signer (record { key = id_text c.key_by-key.result; params = c.in-Some.held }) (record { key = key_of c.args.seed.now params; params = params }) c.in-Some.ensures h same)))

pub returns-in-None : goal.returns-in-None
returns-in-None g c h =
    let same : id_text c.key_by-key.result ≡ key_of c.args.seed.now c.args.params = c.key_by-key.ensures ∙ ap (λ (p : List ℕ). id_of (lms p)) c.public_of.ensures in
    c.in-None.ensures c.args.params (subst (λ (k : List ℕ). IsRegistered c.args.self.now.book k c.args.params) (sym same) h)
