use Rattle.std.proofs.Common.{◌≡◌, map, take}
use Rattle.cli_repository.proofs.files.read_all.Given as goal

-- those that were read, in order
abbrev pub invariant-loop-path : goal.invariant-loop-path
invariant-loop-path g l = map (λ f. f.path.now) l.files.items ≡ map (λ d. d.1.now) (take l.path-index l.fn.documents)
