-- What the code's bins stand for.
use Rattle.std.specs.Prelude.{ℕ, List, map, string_bytes, String}
use Rattle.std.specs.declared.alloc.Global.{Global}
use Rattle.hash_bins.specs.Bins.{Bin as Plain}
use Rattle.hash_bins.specs.declared.bins.Bin.{Bin}

abbrev pub texts_view : List (String Global) → List (List ℕ)
texts_view texts = map string_bytes texts

abbrev pub bin_view : Bin → Plain
bin_view b = record { number = string_bytes b.number; prefixes = texts_view b.prefixes.items }

abbrev pub bins_view : List Bin → List Plain
bins_view bins = map bin_view bins
