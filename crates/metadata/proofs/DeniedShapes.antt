-- An order denies a file of another shape with just the number of the check that fails first.
use Rattle.std.proofs.Common.{ℕ, ◌↔◌, Err, refl, subst}
use Rattle.metadata.specs.File.{Bytes, Form, IsDeniedShape}
use Rattle.denials.specs.Orders.{Denied, Plain}
use Rattle.metadata.specs.Shaped.{Shaped, faulty, shaped}

denied_shape : {A : Type 0} (form : Form A) (b : Bytes) (n : ℕ) → IsDeniedShape form.kind b n → shaped form b (Err (Denied (Plain n)))
denied_shape form b n d = subst (λ (k : ℕ). Shaped form b (Err (Denied (Plain k)))) d.2 (faulty d.0 d.1)

shape_denied : {A : Type 0} (form : Form A) (b : Bytes) (n : ℕ) → shaped form b (Err (Denied (Plain n))) → IsDeniedShape form.kind b n
shape_denied form b _ (faulty e h) = (e, h, refl)

pub denied_just : {A : Type 0} (form : Form A) (b : Bytes) (n : ℕ) → shaped form b (Err (Denied (Plain n))) ↔ IsDeniedShape form.kind b n
denied_just form b n = (shape_denied form b n, denied_shape form b n)
