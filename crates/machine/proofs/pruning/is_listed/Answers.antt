use Rattle.std.proofs.Common.{◌≡◌, ◌∙◌, ℕ, List, Option, Some, None, Bor, ap, subst, sym, map, nat_eq, option_map, unwrap_or, false}
use Rattle.keys_roles.specs.Plain.{look_up}
use Rattle.keys_roles.specs.Rules.{AreDistinct}
use Rattle.document_parts.specs.Documents as plain
use Rattle.metadata.specs.File.{Name}
use Rattle.metadata.specs.FileViews.{snapshot_file}
use Rattle.document_parts.specs.Views.{meta_view, snapshot_view}
use Rattle.document_parts.specs.declared.documents.Meta.{Meta}
use Rattle.document_parts.specs.declared.documents.Snapshot.{Snapshot}
use Rattle.metadata.specs.declared.file.File.{File}
use Rattle.delegations.proofs.Gathered.{listed_names, names_distinct}
use Rattle.trust_rules.specs.Offers as commands
use Rattle.granting.proofs.ListedVerdicts.{listed_by}
use Rattle.machine.proofs.pruning.is_listed.Goals as goal

-- no name stands twice in a snapshot
apart : (body : Snapshot) → AreDistinct (map (λ e. e.0) (snapshot_view body).meta)
apart body = subst AreDistinct (sym (listed_names meta_view body.meta.items)) (names_distinct body.meta.items body.in_order)

told : (file : File Snapshot) (o : Option (File Snapshot)) (role : Name) (v : ℕ) (found : Option plain.MetaFile) → o ≡ Some file → look_up (snapshot_view file.body).meta role ≡ found
    → unwrap_or (option_map (λ e. nat_eq e.version v) found) false ≡ commands.is_listed (option_map snapshot_file o) (role, v)
told file o role v found is look =
    sym (ap (λ (x : Option (File Snapshot)). commands.is_listed (option_map snapshot_file x) (role, v)) is
    ∙ listed_by (snapshot_view file.body).meta role v (apart file.body) ∙ ap (λ (x : Option plain.MetaFile). unwrap_or (option_map (λ e. nat_eq e.version v) x) false) look)

look : (listing : List (Name × plain.MetaFile)) (asked role : Name) (o p : Option (Bor Meta)) → option_map (λ m. meta_view m.now) o ≡ look_up listing asked → asked ≡ role → o ≡ p
    → look_up listing role ≡ option_map (λ m. meta_view m.now) p
look listing asked role o p is at same = ap (λ (n : Name). look_up listing n) (sym at) ∙ sym is ∙ ap (λ (x : Option (Bor Meta)). option_map (λ m. meta_view m.now) x) same

pub returns-in_default-entry : goal.returns-in_default-entry
returns-in_default-entry c =
    let file = c.in-Some.file in
    told file c.args.snapshot.now c.args.row.now.role c.args.row.now.version None c.in-Some.is
    (look (snapshot_view file.body).meta c.as_str.result.now c.args.row.now.role c.entry.result None c.entry.ensures c.as_str.ensures.value c.in_default-entry.is)

pub returns : goal.returns
returns c =
    let file = c.in-Some.file in
    told file c.args.snapshot.now c.args.row.now.role c.args.row.now.version (Some (meta_view c.in-Some-entry.entry.now)) c.in-Some.is
    (look (snapshot_view file.body).meta c.as_str.result.now c.args.row.now.role c.entry.result (Some c.in-Some-entry.entry) c.entry.ensures c.as_str.ensures.value c.in-Some-entry.is)
