-- Where no visit of an edge fails, its document is live, and it is not so that it does not meet the edge. Nothing is decided of rules.
use Rattle.std.proofs.Common.{◌≡◌, ⊎_elim, ℕ, ◌<◌, Option, Some, Ok, Err, sym, subst, arith}
use Rattle.std.proofs.lemmas.Bool.{cases_lt}
use Rattle.keys_roles.specs.Plain.{look_up}
use Rattle.document_parts.specs.Documents.{MetaFile, Targets}
use Rattle.metadata.specs.File.{File}
use Rattle.denials.specs.Numbers as no
use Rattle.denials.specs.Orders.{Denied, Plain, Denial, Stop, pass, decide, holds, fails, given, need_or}
use Rattle.delegations.specs.Delegation.{Edge}
use Rattle.delegations.specs.Rows.{HasHash, HasLength, row_at}
use Rattle.delegations.specs.Search.{MeetsEdge, Shelf, visit}

there : {A : Type 0} (d : Denial) (o : Option A) (a : A) → o ≡ Some a → need_or d o (Ok a)
there d o a e = subst (λ p. need_or d p (Ok a)) (sym e) given

module _ (W : Shelf) (e : Edge) (entry : MetaFile) (file : File Targets) (now : ℕ) (listed : look_up W.listing e.role ≡ Some entry) (held : row_at W.rows e.role entry.version ≡ Some file)
    (long : HasLength entry file.bytes) (hashed : HasHash entry file.bytes) (fine : (s : Stop) → visit W e now (Err s) → ⊥) where
  pub meets : (MeetsEdge W e file → ⊥) → ⊥
  meets other = fine (Denied (Plain no.role_threshold)) (pass (there _ _ entry listed) (pass (there _ _ file held) (pass (holds long) (pass (holds hashed) (decide (fails other))))))

  pub lives : now < file.body.expires
  lives = ⊎_elim (λ below. below) (λ past. absurd (meets (λ m. fine (Denied (Plain no.role_expired))
      (pass (there _ _ entry listed) (pass (there _ _ file held) (pass (holds long) (pass (holds hashed) (pass (holds m) (decide (fails (λ below. omega (arith, below, past)))))))))))) (cases_lt now file.body.expires)
