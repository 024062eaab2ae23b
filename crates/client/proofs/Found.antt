-- What a server of a state has under the name of a target.
use Rattle.std.proofs.Common.{◌≡◌, ℕ, ◌++◌, List, [], ◌∷◌, Option, Some, None, Ok, Err, sym, ap, ◌∙◌, subst, arith}
use Rattle.std.specs.Borrow.{Bor}
use Rattle.std.specs.Prelude.{codes}
use Rattle.std.proofs.lemmas.List.{append_cancel_left}
use Rattle.metadata.specs.File.{Bytes}
use Rattle.denials.specs.Views.{denial_view}
use Rattle.denials.specs.declared.denial.Denial.{Denial}
use Rattle.store.specs.Answers.{Gives, denies, gives}
use Rattle.store.specs.DeclaredRefusal.{Refusal}
use Rattle.store.specs.Refusals.{Denied}
use Rattle.path_patterns.specs.Names.{IsNameOf}
use Rattle.trust_rules.specs.State.{State}
use Rattle.trust_rules.specs.Grants.{grants}
use Rattle.fetch.specs.Source.{Answer}
use Rattle.client.specs.Answering as answering
use Rattle.client.specs.Answering.{IsAnswer, IsHeldAs, IsServed}

abbrev first_byte : Bytes → ℕ
first_byte [] = 0
first_byte (x ∷ xs) = x

abbrev AsksOnce : Type 0
AsksOnce = (text p q : List ℕ) (d e : Option (List ℕ)) → IsNameOf text p d → IsNameOf text q e → (p ≡ q) × (d ≡ e)

pub served : AsksOnce → (S : State) (now : ℕ) (name text path : Bytes) (asked found : Option Bytes) → name ≡ codes "targets/" ++ text → IsNameOf text path asked → IsServed S path asked now found
    → IsHeldAs S now name found
served once S now name text path asked found is asks h = record {
  metadata = λ file e. let k : 109 ≡ 116 = ap first_byte (sym e ∙ is) in absurd (omega (arith, k));
  target = λ other p d e a.
      let same : text ≡ other = append_cancel_left (codes "targets/") text other (sym is ∙ e) in
      let one = once text path p asked d asks (subst (λ (t : Bytes). IsNameOf t p d) (sym same) a) in
      subst (λ (q : Bytes). IsServed S q d now found) one.0 (subst (λ (q : Option Bytes). IsServed S path q now found) one.1 h);
  other = λ m t. absurd (t text is);
}

module _ (once : AsksOnce) (S : State) (now : ℕ) (name text path given : Bytes) (asked : Option Bytes) (is : name ≡ codes "targets/" ++ text) (same : given ≡ path) (asks : IsNameOf text path asked) where
  bytes_of : (b : Bor Bytes) → Gives (grants S given asked now) (λ c. c.now) (Ok b) → grants S given asked now (Ok b.now)
  bytes_of b (gives h) = h

  denial_of : (d : Denial) → Gives {A = Bor Bytes} (grants S given asked now) (λ c. c.now) (Err (Denied d)) → IsServed S given asked now None
  denial_of d (denies h) = (denial_view d, h)

  pub found_bytes : (b : Bor Bytes) → Gives (grants S given asked now) (λ c. c.now) (Ok b) → IsHeldAs S now name (Some b.now)
  found_bytes b h = served once S now name text path asked (Some b.now) is asks (subst (λ (p : Bytes). IsServed S p asked now (Some b.now)) same (bytes_of b h))

  pub found_denied : (f : Refusal) (d : Denial) → f ≡ Denied d → Gives {A = Bor Bytes} (grants S given asked now) (λ c. c.now) (Err f) → IsHeldAs S now name None
  found_denied f d e h =
      served once S now name text path asked None is asks
      (subst (λ (p : Bytes). IsServed S p asked now None) same (denial_of d (subst (λ (x : Refusal). Gives {A = Bor Bytes} (grants S given asked now) (λ c. c.now) (Err x)) e h)))

-- an answer, where what it is said of tells what is held
pub answers_so : (limit : ℕ) (Has Is : Option Bytes → Type 0) (answer : Answer) → ((found : Option Bytes) → Has found → Is found) → IsAnswer limit Has answer → IsAnswer limit Is answer
answers_so limit Has Is _ f (answering.gives {b = b} h k) = answering.gives (f (Some b) h) k
answers_so limit Has Is _ f (answering.has_none h) = answering.has_none (f None h)
answers_so limit Has Is _ f (answering.is_longer {b = b} h k) = answering.is_longer (f (Some b) h) k
answers_so limit Has Is _ f answering.lacks_memory = answering.lacks_memory

pub copy_answers : (limit : ℕ) (Is : Option Bytes → Type 0) (b : Bytes) (answer : Answer) → Is (Some b) → IsAnswer limit (λ found. found ≡ Some b) answer → IsAnswer limit Is answer
copy_answers limit Is b answer h k = answers_so limit (λ found. found ≡ Some b) Is answer (λ found e. subst Is (sym e) h) k
