-- What the code's values stand for.
use Rattle.std.specs.Prelude.{ℕ, List, map, refl}
use Rattle.std.specs.Coded.{Coded, code_by, coded×, coded_ℕ, coded_list}
use Rattle.lms.specs.declared.Params.{Params}
use Rattle.lms.specs.contracts.Params as params
use Rattle.keys_roles.specs.Views.{id_text}
use Rattle.leaf_plans.specs.Book.{Book, LeafRow, Signer}
use Rattle.leaf_plans.specs.declared.entries.Signer.{Signer as SignerHeld}
use Rattle.leaf_plans.specs.declared.entries.LeafRow.{LeafRow as HeldLeafRow}

abbrev pub signer_view : SignerHeld → Signer
signer_view s = record { key = id_text s.key; params = s.params }

abbrev pub kept_view : HeldLeafRow → LeafRow
kept_view e = record { key = id_text e.key; leaf = e.leaf; message = e.message.items }

abbrev pub book_view : List SignerHeld → List HeldLeafRow → Book
book_view signers leaves = record { signers = map signer_view signers; leaves = map kept_view leaves }

abbrev signer_code : Coded Signer
signer_code = code_by (List ℕ × Params) (coded× (coded_list coded_ℕ) params.the_row.coded) (λ s. (s.key, s.params)) (λ p. record { key = p.0; params = p.1 }) (λ _. refl)

abbrev kept_code : Coded LeafRow
kept_code = code_by (List ℕ × (ℕ × List ℕ)) (coded× (coded_list coded_ℕ) (coded× coded_ℕ (coded_list coded_ℕ))) (λ e. (e.key, (e.leaf, e.message))) (λ p. record { key = p.0; leaf = p.1.0; message = p.1.1 }) (λ _. refl)

abbrev pub book_code : Coded Book
book_code = code_by (List Signer × List LeafRow) (coded× (coded_list signer_code) (coded_list kept_code)) (λ b. (b.signers, b.leaves)) (λ p. record { signers = p.0; leaves = p.1 }) (λ _. refl)
