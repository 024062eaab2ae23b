use Rattle.std.proofs.Common.{◌≡◌, ℕ, List, rules, string_bytes, sym, subst}
use Rattle.keys_roles.specs.Views.{id_text}
use Rattle.chain_drafting.specs.Finding.{IsNameOf}
use Rattle.drafting.proofs.Rows.{shown}
use Rattle.chain_drafting.proofs.finding.named_key.Goals as goal

pub returns-clause-name : goal.returns-clause-name
returns-clause-name c =
    let id : c.as_str.result.now ≡ id_text c.args.row.now.0 = search rules in
    let said : string_bytes c.in_ok-name.name ≡ c.name_for.result.now = search rules in
    subst (λ (n : List ℕ). IsNameOf (shown c.args.names.now) c.args.word.now (id_text c.args.row.now.0) n) (sym said)
    (subst (λ (d : List ℕ). IsNameOf (shown c.args.names.now) c.args.word.now d c.name_for.result.now) id c.name_for.ensures)
