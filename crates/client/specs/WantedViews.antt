-- What the code's wanted files stand for.
use Rattle.std.specs.Prelude.{string_bytes}
use Rattle.metadata.specs.File.{Bytes}
use Rattle.store.specs.StateViews.{offer_view}
use Rattle.trust_rules.specs.Runs.{Command, OfferOne, PutBlob}
use Rattle.client.specs.Wanted as plain
use Rattle.client.specs.declared.wanted.Wanted.{Wanted}
use Rattle.client.specs.declared.wanted.Use.{Use}
use Rattle.client.specs.declared.wanted.Use.TheVariants as uses

abbrev pub command_of : Use → Bytes → Command
command_of (uses.Document offer) b = OfferOne (offer_view offer) b
command_of (uses.Blob digest) b = PutBlob digest.0 b

abbrev pub wanted_view : Wanted → plain.Wanted
wanted_view w = record { name = string_bytes w.name; limit = w.limit; command = command_of w.purpose }
