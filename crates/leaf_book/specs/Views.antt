-- What the code's values stand for, and what a caller sees of a book.
use Rattle.std.specs.Prelude.{ℕ, List, Result, Ok, Err, refl}
use Rattle.std.specs.Coded.{Coded, code_by, coded×, coded_ℕ, coded_list}
use Rattle.sqlite.specs.Held.{Held as Connection, held_code}
use Rattle.lms.specs.declared.Params.{Params}
use Rattle.lms.specs.contracts.Params as params
use Rattle.keys_roles.specs.declared.KeyId.{KeyId}
use Rattle.keys_roles.specs.Views.{id_text}
use Rattle.leaf_plans.specs.Book.{Book}
use Rattle.leaf_plans.specs.Views.{book_code}
use Rattle.leaf_book.specs.Calls.{Reserved}
use Rattle.leaf_book.specs.declared.faults.BookFault.{BookFault}

abbrev pub id_answer : Result KeyId BookFault → Result (List ℕ) BookFault
id_answer (Ok id) = Ok (id_text id)
id_answer (Err e) = Err e

-- what a caller sees of a book: its connection, and what it holds
pub record Shown (S : Type 0) : Type 0 where
  pub conn : Connection S
  pub book : Book

abbrev pub shown_code : {S : Type 0} → Coded S → Coded (Shown S)
shown_code {S} store = code_by (Connection S × Book) (coded× (held_code store) book_code) (λ s. (s.conn, s.book)) (λ p. record { conn = p.0; book = p.1 }) (λ _. refl)

abbrev pub reserved_code : Coded Reserved
reserved_code =
    code_by (List ℕ × (ℕ × (Params × List ℕ))) (coded× (coded_list coded_ℕ) (coded× coded_ℕ (coded× params.the_row.coded (coded_list coded_ℕ))))
    (λ r. (r.key, (r.leaf, (r.params, r.message)))) (λ p. record { key = p.0; leaf = p.1.0; params = p.1.1.0; message = p.1.1.1 }) (λ _. refl)
