use Rattle.std.proofs.Common.{◌≡◌, ◌∷◌, [], ℕ, List, rules, sym, subst}
use Rattle.hex.specs.Hex.{encode_lower}
use Rattle.sqlite.specs.declared.types.Value.TheVariants.{Text}
use Rattle.sqlite.specs.Held.{state}
use Rattle.sqlite.specs.Order.{Row}
use Rattle.sqlite.specs.State.{Shown}
use Rattle.table_rows.specs.steps.Loading.{HasBytes, one_text}
use Rattle.table_rows.proofs.One.{one_of, one_there}
use Rattle.table_rows.proofs.blobs.load_blob.Goals as goal

pub returns-clause-found : goal.returns-clause-found
returns-clause-found g c some =
    let (bytes, same, there, right) = c.in_ok-append.ensures.found some in (
      bytes,
      same,
      right,
      (λ clean t is.
          let old = state g.S.Store c.args.conn.now in
          let new = state g.S.Store c.ask.new.conn in
          let digits : c.encode_to_slice.new.output ≡ encode_lower c.args.digest.now = search rules in
          let shown = subst (λ (d : List ℕ). Shown one_text (Text d ∷ []) old new c.in_ok-rows.rows.items) digits (c.in_ok-rows.ensures.rows clean) in
          one_of c.args.digest.now old new c.in_ok-rows.rows.items t is shown bytes (subst (λ (rows : List Row). HasBytes rows bytes) c.deref.ensures.value there)),
    )

pub returns-clause-missing : goal.returns-clause-missing
returns-clause-missing g c none clean t is x has name right =
    let old = state g.S.Store c.args.conn.now in
    let new = state g.S.Store c.ask.new.conn in
    let digits : c.encode_to_slice.new.output ≡ encode_lower c.args.digest.now = search rules in
    let shown = subst (λ (d : List ℕ). Shown one_text (Text d ∷ []) old new c.in_ok-rows.rows.items) digits (c.in_ok-rows.ensures.rows clean) in
    let there = one_there c.args.digest.now old new c.in_ok-rows.rows.items t is shown x has name in
    (c.in_ok-append.ensures.missing none).1 x.1 (subst (λ (rows : List Row). HasBytes rows x.1) (sym c.deref.ensures.value) there) right
