-- The subcommands and their arguments, in the definitions of `clap`.
use Rattle.std.specs.Prelude.{ℕ, Some, true, codes}
use Rattle.limits.specs.Limits.{most_documents}
use Rattle.clap.specs.Words.{App, Rule, Text, new_app, new_rule, with_rule, with_subcommand}
use Rattle.clap.specs.declared.builder.action.ArgAction.TheVariants.{Append, Count, Set}
use Rattle.clap.specs.declared.builder.value_parser.ValueParser.TheVariants.{Unsigned}

-- ---- the arguments

-- `--NAME VALUE`
abbrev pub option_rule : Text → Rule
option_rule name = record (new_rule name) { long = Some name; value_names = 1; action = Some Set }

-- an argument that has to be there
abbrev pub required_rule : Rule → Rule
required_rule rule = record rule { required = true }

-- the last moment, 9999-12-31T23:59:59Z, in seconds since 1970-01-01T00:00:00Z
abbrev pub last_moment : ℕ
last_moment = 253402300799

-- `--at SECONDS`
abbrev pub moment_rule : Rule
moment_rule = record (option_rule (codes "at")) { parser = Some (Unsigned 0 last_moment) }

-- `--verbose` or `-v`, which takes no value and may stand more than once
abbrev pub verbose_rule : Rule
verbose_rule = record (new_rule (codes "verbose")) { long = Some (codes "verbose"); short = Some 118; action = Some Count }

-- `--db FILE`, which has to be there
abbrev pub db_rule : Rule
db_rule = record (option_rule (codes "db")) { required = true }

-- `--NAME`, which takes no value and may stand more than once
abbrev pub flag_rule : Text → Rule
flag_rule name = record (new_rule name) { long = Some name; action = Some Count }

-- `--NAME VALUE`, which may stand more than once
abbrev pub many_rule : Text → Rule
many_rule name = record (option_rule name) { action = Some Append }

-- `--ots W` and `--height H`
abbrev pub ots_rule : Rule
ots_rule = record (option_rule (codes "ots")) { parser = Some (Unsigned 1 8) }

abbrev pub height_rule : Rule
height_rule = record (option_rule (codes "height")) { parser = Some (Unsigned 5 10) }

-- an operand, which has to be there
abbrev pub operand_rule : Text → Rule
operand_rule name = record (new_rule name) { value_names = 1; required = true; action = Some Set }

-- operands, as many as a batch has documents at most, or none
abbrev pub operands_rule : Text → Rule
operands_rule name = record (new_rule name) {
  value_names = 1;
  action = Some Append;
  range = Some (record { start_inclusive = 1; end_inclusive = most_documents });
}

-- the last port, and so many connections may be counted
abbrev pub last_port : ℕ
last_port = 65535

abbrev pub most_connections : ℕ
most_connections = 4294967295

-- `--port P`, which has to be there
abbrev pub port_rule : Rule
port_rule = record (option_rule (codes "port")) { required = true; parser = Some (Unsigned 1 last_port) }

-- `--port P`, where something else may stand in its place
abbrev pub port_option_rule : Rule
port_option_rule = record (option_rule (codes "port")) { parser = Some (Unsigned 1 last_port) }

-- `--count N`
abbrev pub count_rule : Rule
count_rule = record (option_rule (codes "count")) { parser = Some (Unsigned 1 most_connections) }

-- `--within SECONDS`, a day at most
abbrev pub most_seconds : ℕ
most_seconds = 86400

abbrev pub within_rule : Rule
within_rule = record (option_rule (codes "within")) { parser = Some (Unsigned 1 most_seconds) }

-- `--due DAYS`, ten years at most
abbrev pub most_days : ℕ
most_days = 3650

abbrev pub due_rule : Rule
due_rule = record (option_rule (codes "due")) { parser = Some (Unsigned 0 most_days) }

-- `--to FOLDER`, which has to be there
abbrev pub folder_rule : Rule
folder_rule = record (option_rule (codes "to")) { required = true }

-- ---- the subcommands

abbrev pub begun_line : Text → App
begun_line name = with_rule (with_rule (new_app name) moment_rule) verbose_rule

abbrev pub stored_line : Text → App
stored_line name = with_rule (begun_line name) db_rule

-- a subcommand over a database or a port, each of which may be left out as far as `clap` is told
abbrev pub placed_line : Text → App
placed_line name = with_rule (with_rule (begun_line name) (option_rule (codes "db"))) port_option_rule

abbrev pub canon_line : App
canon_line = with_rule (begun_line (codes "canon")) (operand_rule (codes "file"))

abbrev pub export_line : App
export_line = with_rule (stored_line (codes "export")) folder_rule

-- a subcommand over a database and over what is at a port, at mirrors or in folders, each of which may be left out as far as `clap` is told
abbrev pub client_line : Text → App
client_line name = with_rule (with_rule (with_rule (with_rule (with_rule (stored_line name) port_option_rule) (many_rule (codes "mirror"))) (many_rule (codes "from")))
    within_rule) (flag_rule (codes "json"))

abbrev pub get_line : App
get_line = with_rule (with_rule (with_rule (with_rule (with_rule (client_line (codes "get")) (option_rule (codes "out"))) (option_rule (codes "to")))
    (option_rule (codes "list"))) (flag_rule (codes "all"))) (operands_rule (codes "path"))

abbrev pub init_line : App
init_line = with_rule (stored_line (codes "init")) (operand_rule (codes "root"))

-- a subcommand that may be told a key pair
abbrev pub with_key_pair : App → App
with_key_pair a = with_rule (with_rule (with_rule a (option_rule (codes "seed"))) ots_rule) height_rule

-- `--levels N`, `--lower-ots W` and `--lower-height H` of a new key of several levels
abbrev pub with_levels : App → App
with_levels a = with_rule (with_rule (with_rule a (record (option_rule (codes "levels")) { parser = Some (Unsigned 1 2) }))
    (record (option_rule (codes "lower-ots")) { parser = Some (Unsigned 1 8) })) (record (option_rule (codes "lower-height")) { parser = Some (Unsigned 5 10) })

abbrev pub key_line : App
key_line = with_rule (with_levels (with_rule (with_rule (with_key_pair (begun_line (codes "key"))) (option_rule (codes "new"))) (operands_rule (codes "name"))))
    (option_rule (codes "public"))

abbrev pub prune_line : App
prune_line = placed_line (codes "prune")

abbrev pub publish_line : App
publish_line = with_rule (with_rule (placed_line (codes "publish")) (option_rule (codes "in"))) (operands_rule (codes "document"))

abbrev pub put_line : App
put_line = with_rule (placed_line (codes "put")) (operand_rule (codes "file"))

abbrev pub serve_line : App
serve_line = with_rule (with_rule (with_rule (stored_line (codes "serve")) port_rule) count_rule) (flag_rule (codes "read-only"))

-- `show`, over a database, a folder of drafts, or both: what is shown, and how
abbrev pub shown_line : App
shown_line = with_rule (with_rule (with_rule (begun_line (codes "show")) (option_rule (codes "db"))) (option_rule (codes "in"))) due_rule

abbrev pub show_line : App
show_line = with_rule (with_rule (with_rule (with_rule (with_rule shown_line (flag_rule (codes "list"))) (many_rule (codes "key"))) (flag_rule (codes "json")))
    (option_rule (codes "html"))) (operands_rule (codes "path"))

-- `sign` by a book and a seed, and by the three files of each key, or of one of several, over a folder of drafts
abbrev pub by_book_line : App
by_book_line = with_rule (with_key_pair (with_rule (begun_line (codes "sign")) (option_rule (codes "book")))) (flag_rule (codes "known"))

-- by which root what is held in a folder is judged
abbrev pub with_anchor : App → App
with_anchor a = with_rule (with_rule (with_rule (with_rule a (option_rule (codes "db"))) port_option_rule) (option_rule (codes "anchor"))) (flag_rule (codes "strict"))

abbrev pub sign_line : App
sign_line = with_rule (with_rule (with_rule (with_anchor (with_rule (with_rule (with_rule by_book_line (many_rule (codes "key"))) (option_rule (codes "any")))
    (option_rule (codes "in")))) (flag_rule (codes "yes"))) (flag_rule (codes "again"))) (operands_rule (codes "file"))

abbrev pub update_line : App
update_line = with_rule (client_line (codes "update")) (flag_rule (codes "fresh"))

-- `draft`: what each kind has, what targets metadata, layouts and links have, the kind itself and its words
abbrev pub begun_draft_line : App
begun_draft_line = with_rule (with_rule (with_rule (with_rule (begun_line (codes "draft")) (option_rule (codes "db"))) (required_rule (option_rule (codes "in"))))
    (option_rule (codes "expires"))) (flag_rule (codes "anew"))

abbrev pub with_listings : App → App
with_listings a = with_rule (with_rule (with_rule (with_rule a (option_rule (codes "role"))) (many_rule (codes "add"))) (many_rule (codes "remove")))
    (flag_rule (codes "spread"))

abbrev pub with_delegations : App → App
with_delegations a = with_rule (with_rule (with_rule (with_rule (with_rule a (many_rule (codes "delegate"))) (many_rule (codes "bins")))
    (flag_rule (codes "terminating"))) (option_rule (codes "before"))) (many_rule (codes "undelegate"))

abbrev pub with_layouts : App → App
with_layouts a = with_rule (with_rule (with_rule a (option_rule (codes "target"))) (option_rule (codes "owners"))) (option_rule (codes "rules"))

abbrev pub with_links : App → App
with_links a = with_rule (with_rule (with_rule a (option_rule (codes "step"))) (many_rule (codes "materials"))) (many_rule (codes "products"))

abbrev pub draft_line : App
draft_line = with_rule (with_rule (with_rule (with_links (with_layouts (with_delegations (with_listings begun_draft_line)))) (option_rule (codes "key")))
    (operand_rule (codes "kind"))) (operands_rule (codes "word"))

abbrev pub needs_subcommand : App → App
needs_subcommand a = record a { top = record a.top { subcommand_required = true } }

abbrev pub with_command : App → App → App
with_command a c = with_subcommand a c.top

abbrev pub with_version : App → App
with_version a = record a { top = record a.top { has_version = true } }

-- the whole command line
abbrev pub release_line : App
release_line = with_command (with_command (with_command (with_command (with_command (with_command (with_command (with_command (with_command (with_command (with_command (with_command (with_command
    (needs_subcommand (with_version (new_app (codes "release"))))
    canon_line) draft_line) export_line) get_line) init_line) key_line) prune_line) publish_line) put_line) serve_line) show_line) sign_line) update_line
