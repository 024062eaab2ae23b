-- What a client's command does to its own state.
use Rattle.std.specs.Prelude.{ℕ}
use Rattle.store.specs.Standing.{Standing}
use Rattle.client.specs.Changes.{Changes}
use Rattle.client.specs.Taken.{IsTaking, RunsOn}

-- documents and target files were offered to it, each judged by its own rules, and nothing else was done
abbrev pub Updated : ℕ → Standing → Standing → Type 0
Updated now A B = Changes A B (λ C D. RunsOn IsTaking now C D)
