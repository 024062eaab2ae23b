use Rattle.std.proofs.Common.{◌≡◌, ◌∙◌, None, Some, subst, sym}
use Rattle.sqlite.specs.Held.{state}
use Rattle.trust_rules.specs.Held.{Held}
use Rattle.trust_rules.specs.State.{metadata_of}
use Rattle.trust_rules.specs.Runs.{Metadata}
use Rattle.store.proofs.Applying.{copy_sound, file_absent, file_found, still_at}
use Rattle.store.proofs.store.Store.metadata.Goals as goal

pub returns-in-Some : goal.returns-in-Some
returns-in-Some g c =
    still_at c.args.self.now.kept (state g.S.Store c.args.self.now.conn) (Metadata c.args.name.now) c.args.now tt c.copied.result c.rests.ensures.left
    (λ S of. file_found S c.args.name.now c.args.now c.in-Some.bytes.now c.copied.result
    (subst (λ (H : Held). metadata_of H.trusted c.args.name.now ≡ Some c.in-Some.bytes.now) (c.held.ensures ∙ sym of.held) (sym c.in-Some.ensures)) c.copied.ensures)
    (copy_sound c.in-Some.bytes.now c.copied.result c.copied.ensures)

pub returns-in-None : goal.returns-in-None
returns-in-None g c =
    still_at c.args.self.now.kept (state g.S.Store c.args.self.now.conn) (Metadata c.args.name.now) c.args.now tt _ c.rests.ensures.left
    (λ S of. file_absent S c.args.name.now c.args.now
    (subst (λ (H : Held). metadata_of H.trusted c.args.name.now ≡ None) (c.held.ensures ∙ sym of.held) (sym c.in-None.ensures))) (λ same. cc)
