-- What the code's commands and replies stand for.
use Rattle.std.specs.Prelude.{option_map}
use Rattle.trust_rules.specs.Runs as steps
use Rattle.denials.specs.Views.{denial_view}
use Rattle.machine.specs.StateViews.{documents_view, offer_view}
use Rattle.store.specs.declared.command.Command.{Command}
use Rattle.store.specs.declared.command.Command.TheVariants as commands
use Rattle.store.specs.declared.command.Reply.{Reply}
use Rattle.store.specs.declared.command.Reply.TheVariants as replies

abbrev pub command_view : Command → steps.Command
command_view (commands.Init bytes) = steps.Init bytes.now
command_view (commands.Batch documents) = steps.Batch (documents_view documents.now)
command_view (commands.Offer offer bytes) = steps.OfferOne (offer_view offer.now) bytes.now
command_view (commands.PutBlob digest bytes) = steps.PutBlob digest.0 bytes.now
command_view commands.Prune = steps.Prune
command_view (commands.Metadata name) = steps.Metadata name.now
command_view (commands.Target path asked) = steps.Target path.now (option_map (λ d. d.0) asked)

abbrev pub reply_view : Reply → steps.Reply
reply_view replies.Begun = steps.Begun
reply_view (replies.Batch accepted same) = steps.BatchDone accepted same
reply_view (replies.Offered same) = steps.Offered same
reply_view (replies.Stored new) = steps.Stored new
reply_view (replies.Pruned blobs rows) = steps.Pruned blobs rows
reply_view (replies.Bytes bytes) = steps.FileBytes bytes.items
reply_view replies.Absent = steps.Absent
reply_view (replies.Denied denial index) = steps.Refused (denial_view denial) index
