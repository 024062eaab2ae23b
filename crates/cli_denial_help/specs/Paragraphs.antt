-- What the paragraph of a denial is.
use Rattle.std.specs.Prelude.{◌≡◌, ◌≤◌, ◌<◌, length}
use Rattle.denials.specs.Numbers.{names, name_of}
use Rattle.cli_denial_help.specs.declared.Paragraph.{Paragraph}

-- the number is that of a denial, the name is the denial's, and there is a text
pub record IsParagraph (p : Paragraph) : Type 0 where
  pub least : 1 ≤ p.number
  pub most : p.number ≤ length names
  pub name : p.name.now ≡ name_of p.number
  pub text : 0 < length p.text.now
