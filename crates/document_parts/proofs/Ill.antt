-- What a fault of a part says of the whole.
use Rattle.std.proofs.Common.{inl, inr}
use Rattle.document_parts.specs.steps.Faults.{IsIll, IsMisnamed}
use Rattle.document_parts.specs.declared.documents.ShapeFault.{ShapeFault}

pub ill_again : {P Q : Type 0} (e : ShapeFault) → IsIll P e → (Q → P) → IsIll Q e
ill_again e (inl h) f = inl h
ill_again e (inr h) f = inr (h.0, λ q. h.1 (f q))

pub misnamed_again : {P Q : Type 0} (e : ShapeFault) → IsMisnamed P e → (Q → P) → IsMisnamed Q e
misnamed_again e (inl h) f = inl h
misnamed_again e (inr h) f = inr (h.0, λ q. h.1 (f q))
