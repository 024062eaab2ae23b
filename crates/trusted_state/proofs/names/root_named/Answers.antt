use Rattle.std.proofs.Common.{◌≡◌, ap, sym, ◌∙◌, map, true, false, Some}
use Rattle.path_patterns.specs.Names.{dotted}
use Rattle.document_parts.specs.Views.{profile_view}
use Rattle.std.specs.Prelude.{bytes_eq, codes}
use Rattle.trust_rules.specs.steps.NamedFiles.{earlier_files}
use Rattle.trust_rules.proofs.FoundNames.{found_first, found_later}
use Rattle.trusted_state.proofs.MetadataNames.{one_found, one_missed, roots_kept}
use Rattle.trusted_state.proofs.names.root_named.Goals as goal

pub returns-in-Some-earlier_named : goal.returns-in-Some-earlier_named
returns-in-Some-earlier_named c =
    let last = c.in-Some.last in
    let name = c.args.name.now in
    let e = rw (c.from-version.ensures, c.deref.ensures.value) at c.in-Some-earlier_named.ensures in
    sym (roots_kept c.args.trusted.now last name c.in-Some.is
    ∙ found_first (earlier_files last.body.version (map (λ b. (profile_view b.0, b.1.items)) c.args.trusted.now.earlier.items)) _ name c.in-Some-earlier_named.bytes.now (sym e))

pub returns-then-is_dotted : goal.returns-then-is_dotted
returns-then-is_dotted c =
    let last = c.in-Some.last in
    let name = c.args.name.now in
    let e = rw (c.from-version.ensures, c.deref.ensures.value) at c.in_default-earlier_named.ensures in
    let t : bytes_eq (dotted last.body.version (codes "root")) name ≡ true =
    rw (c.from-version.ensures, c.as_slice.ensures) at (sym c.is_dotted.ensures ∙ c.if-is_dotted.true) in
    sym (roots_kept c.args.trusted.now last name c.in-Some.is
    ∙ (found_later (earlier_files last.body.version (map (λ b. (profile_view b.0, b.1.items)) c.args.trusted.now.earlier.items)) _ name (sym e)
    ∙ (one_found (dotted last.body.version (codes "root")) last.source.bytes name t ∙ ap Some (sym c.bytes.ensures))))

pub returns-else-is_dotted : goal.returns-else-is_dotted
returns-else-is_dotted c =
    let last = c.in-Some.last in
    let name = c.args.name.now in
    let e = rw (c.from-version.ensures, c.deref.ensures.value) at c.in_default-earlier_named.ensures in
    let t : bytes_eq (dotted last.body.version (codes "root")) name ≡ false =
    rw (c.from-version.ensures, c.as_slice.ensures) at (sym c.is_dotted.ensures ∙ c.if-is_dotted.false) in
    sym (roots_kept c.args.trusted.now last name c.in-Some.is
    ∙ (found_later (earlier_files last.body.version (map (λ b. (profile_view b.0, b.1.items)) c.args.trusted.now.earlier.items)) _ name (sym e)
    ∙ one_missed (dotted last.body.version (codes "root")) last.source.bytes name t))
