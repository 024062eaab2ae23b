use Rattle.document_parts.specs.declared.documents.Kind.TheVariants as kinds
use Rattle.chain_drafting.proofs.LinkFiles.{no_link}
use Rattle.chain_drafting.proofs.bases.signed_members.Goals as goal

pub returns-clause-err : goal.returns-clause-err
returns-clause-err c = c.begun_fault.ensures.denial kinds.Link c.args.file.now (no_link c.args.file.now c.in-Err.fault c.in-Err.ensures.fault)
