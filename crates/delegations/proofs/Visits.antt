-- How a visit ends.
use Rattle.std.proofs.Common.{◌≡◌, ◌↔◌, ℕ, ◌<◌, IsTrue, Bool, true, false, Option, Some, None, Ok, Err, subst}
use Rattle.keys_roles.specs.Plain.{look_up}
use Rattle.document_parts.specs.Documents.{Targets, MetaFile}
use Rattle.metadata.specs.File.{File}
use Rattle.denials.specs.Numbers as no
use Rattle.denials.specs.Orders.{pass, decide, holds, fails, given, stopped, Denial, Denied, Plain, RoleMissing, need_or}
use Rattle.delegations.specs.Delegation.{Edge}
use Rattle.delegations.specs.Search.{Shelf, visit, MeetsEdge}
use Rattle.delegations.specs.Rows.{row_at, HasLength, HasHash}

there : {A : Type 0} (d : Denial) (a : A) (o : Option A) → Some a ≡ o → need_or d o (Ok a)
there {A} d a o h = subst (λ (p : Option A). need_or d p (Ok a)) h given

none : {A : Type 0} (d : Denial) (o : Option A) → None ≡ o → need_or d o (Err (Denied d))
none {A} d o h = subst (λ (p : Option A). need_or d p (Err (Denied d))) h stopped

-- a test that answered no
pub refuted : {P : Type 0} (b : Bool) → (IsTrue b ↔ P) → b ≡ false → ¬ P
refuted b h n = λ p. let t : b ≡ true = h.1 p in cc

module _ (V : Shelf) (e : Edge) (now : ℕ) where
  pub unlisted : None ≡ look_up V.listing e.role → visit V e now (Err (Denied (Plain no.role_unlisted)))
  unlisted h = decide (none (Plain no.role_unlisted) (look_up V.listing e.role) h)

  module _ (m : MetaFile) (listed : Some m ≡ look_up V.listing e.role) where
    pub missing : None ≡ row_at V.rows e.role m.version → visit V e now (Err (Denied (RoleMissing e.role m.version)))
    missing h =
        pass (there (Plain no.role_unlisted) m (look_up V.listing e.role) listed)
        (decide (none (RoleMissing e.role m.version) (row_at V.rows e.role m.version) h))

    module _ (file : File Targets) (found : Some file ≡ row_at V.rows e.role m.version) where
      pub other_length : ¬ HasLength m file.bytes → visit V e now (Err (Denied (Plain no.role_length)))
      other_length n =
          pass (there (Plain no.role_unlisted) m (look_up V.listing e.role) listed)
          (pass (there (RoleMissing e.role m.version) file (row_at V.rows e.role m.version) found) (decide (fails n)))

      pub other_hash : HasLength m file.bytes → ¬ HasHash m file.bytes → visit V e now (Err (Denied (Plain no.role_hash)))
      other_hash l n =
          pass (there (Plain no.role_unlisted) m (look_up V.listing e.role) listed)
          (pass (there (RoleMissing e.role m.version) file (row_at V.rows e.role m.version) found) (pass (holds l) (decide (fails n))))

      pub unmet : HasLength m file.bytes → HasHash m file.bytes → ¬ MeetsEdge V e file → visit V e now (Err (Denied (Plain no.role_threshold)))
      unmet l h n =
          pass (there (Plain no.role_unlisted) m (look_up V.listing e.role) listed)
          (pass (there (RoleMissing e.role m.version) file (row_at V.rows e.role m.version) found) (pass (holds l) (pass (holds h) (decide (fails n)))))

      pub expired : HasLength m file.bytes → HasHash m file.bytes → MeetsEdge V e file → ¬ (now < file.body.expires) → visit V e now (Err (Denied (Plain no.role_expired)))
      expired l h k n =
          pass (there (Plain no.role_unlisted) m (look_up V.listing e.role) listed)
          (pass (there (RoleMissing e.role m.version) file (row_at V.rows e.role m.version) found)
          (pass (holds l) (pass (holds h) (pass (holds k) (decide (fails n))))))

      pub good : HasLength m file.bytes → HasHash m file.bytes → MeetsEdge V e file → now < file.body.expires → visit V e now (Ok file)
      good l h k x =
          pass (there (Plain no.role_unlisted) m (look_up V.listing e.role) listed)
          (pass (there (RoleMissing e.role m.version) file (row_at V.rows e.role m.version) found)
          (pass (holds l) (pass (holds h) (pass (holds k) (pass (holds x) given)))))
