-- A fetch by a client that is level with a server, from an honest source: it agrees with the server, or ends in want.
use Rattle.std.proofs.Common.{◌≡◌, ◌⊎◌, inl, inr, ℕ, ◌<◌, ◌≤◌, Bool, true, false, min, [], ◌∷◌, ◌++◌, length, Option, Some, None, Result, Ok, Err, refl, sym, ap, ◌∙◌, subst, arith}
use Rattle.std.specs.Prelude.{codes}
use Rattle.limits.specs.Limits.{blob_limit}
use Rattle.path_patterns.specs.Grammar.{IsTargetPath}
use Rattle.path_patterns.specs.Names.{IsNameOf, dotted}
use Rattle.keys_roles.proofs.Elements.{any_in}
use Rattle.metadata.specs.File.{Bytes, Name, Names, has_name}
use Rattle.denials.specs.Orders as orders
use Rattle.denials.specs.Orders.{BlobMissing, Denial, Judged, Plain, RoleMissing, Same}
use Rattle.trust_rules.proofs.ShapedOnce.{Shapes}
use Rattle.trust_rules.specs.Misses.{IsPart}
use Rattle.trust_rules.specs.State.{IsCoherent, IsState, State, Trusted}
use Rattle.trust_rules.specs.Offers.{TargetsOffer, put_blob}
use Rattle.trust_rules.specs.Grants.{grants}
use Rattle.trust_rules.specs.Runs.{PutBlob, with_trusted}
use Rattle.delegations.specs.Delegation.{before}
use Rattle.delegations.specs.Rows.{with_row}
use Rattle.fetch.specs.Source.{Gives}
use Rattle.fetch.specs.declared.FetchFault.{FetchFault}
use Rattle.fetch.specs.declared.FetchFault.TheVariants as fetches
use Rattle.client.specs.Agreement.{Agrees}
use Rattle.client.specs.Answering.{IsHeldAs, IsHonest}
use Rattle.client.specs.Session as session
use Rattle.client.specs.Session.{Fetches, IsKnown, Makes, Takes}
use Rattle.client.specs.Views as views
use Rattle.client.specs.Views.{Fault}
use Rattle.client.specs.Wanted.{Misses, Wanted, blob, role, wanted_blob, wanted_row}
use Rattle.client.proofs.HonestTakes as takes
use Rattle.client.proofs.HonestTakes.{Arrives, Comes, EndsAs, arrives, arrives_valid, document_arrives, longer, made, nothing, put_comes, unmade, unmade_wants, want_agrees, wants}
use Rattle.client.specs.Several.{IsWanting}
use Rattle.client.proofs.Levels.{Level, blob_enough, blob_level, blob_new, file, is_blob, not_same, not_served, puts, read, refuses, role_enough, role_level, role_named, role_new, role_room, served, some_text, stores}
use Rattle.client.specs.steps.Laws.{GrantLaws, NewLaws, StepLaws}

denied_is : (d e : Denial) → ◌≡◌ {A = Result Bytes Fault} (Err (views.Denied d)) (Err (views.Denied e)) → d ≡ e
denied_is d e k = cc

no_fetch : (d : Denial) (f : FetchFault) → ◌≡◌ {A = Result Bytes Fault} (Err (views.Denied d)) (Err (views.Fetch f)) → f ≡ fetches.OutOfMemory
no_fetch d f k = absurd cc

ok_denied : (b : Bytes) (d : Denial) → ◌≡◌ {A = Judged Bytes} (Ok b) (Err (orders.Denied d)) → ⊥
ok_denied b d e = cc

ok_no_denied : (b : Bytes) (d : Denial) → ◌≡◌ {A = Result Bytes Fault} (Ok b) (Err (views.Denied d)) → ⊥
ok_no_denied b d e = cc

ok_no_fetch : (b : Bytes) (f : FetchFault) → ◌≡◌ {A = Result Bytes Fault} (Ok b) (Err (views.Fetch f)) → f ≡ fetches.OutOfMemory
ok_no_fetch b f e = absurd cc

-- a denial, where the server does not grant the target
pub deny_agrees : (S D : State) (path : Bytes) (now : ℕ) (d : Denial) → ((b : Bytes) → grants S path None now (Ok b) → ⊥) → (e : Denial) → grants D path None now (Err (orders.Denied e))
    → Agrees S D path now (Err (views.Denied d))
deny_agrees S D path now d not e h = record { bytes = tt; denied = λ c k. (not, (e, h)); fetched = λ f k. no_fetch d f k }

pub grant_agrees : (S D : State) (path : Bytes) (now : ℕ) (b : Bytes) → grants S path None now (Ok b) → grants D path None now (Ok b) → Agrees S D path now (Ok b)
grant_agrees S D path now b g h = record { bytes = (g, h); denied = λ d e. absurd (ok_no_denied b d e); fetched = λ f e. ok_no_fetch b f e }

true_false : ◌≡◌ {A = Bool} true false → ⊥
true_false e = cc

err_ok : (fault : Fault) → ◌≡◌ {A = Result (Unit {0}) Fault} (Err fault) (Ok tt) → ⊥
err_ok fault e = cc

ok_err : (d : Denial) → ◌≡◌ {A = Result (Unit {0}) Fault} (Ok tt) (Err (views.Denied d)) → ⊥
ok_err d e = cc

fault_is : (fault : Fault) (d : Denial) → ◌≡◌ {A = Result (Unit {0}) Fault} (Err fault) (Err (views.Denied d)) → fault ≡ views.Denied d
fault_is fault d e = cc

module _ (news : NewLaws) (grant : GrantLaws) (step : StepLaws) (shapes : Shapes) (S : State) (sure : IsState S) (coherent : IsCoherent S.trusted) (path : Bytes) (is_path : IsTargetPath path) (now : ℕ)
    (trusted : Type 0) (trust : trusted) {Src : Type 0} (from : Gives Src) (Is : Src → Type 0) (honest : IsHonest from Is S now) where
  -- ---- the end of a request that misses nothing
  ends_alike : (D : State) → IsPart D S → (n : ℕ) → grants D path None now (Err (orders.Denied (Plain n))) → Agrees S D path now (Err (views.Denied (Plain n)))
  ends_alike D part n h =
      deny_agrees S D path now (Plain n)
      (λ b g. ok_denied b (Plain n) (grant.once S path None now (Ok b) (Err (orders.Denied (Plain n))) g (grant.same D S path None now (Err (orders.Denied (Plain n))) part tt h))) (Plain n) h

  -- ---- a document
  module _ (D : State) (names : Names) (level : Level S D path now names) (r : Name) (version : ℕ) (h : grants D path None now (Err (orders.Denied (RoleMissing r version)))) where
    abbrev doc : Bytes
    doc = (file news grant step shapes S sure coherent path is_path now D level.valid level.part r version h).bytes

    -- how it arrives
    abbrev Row : State → Result Bool Fault → Type 0
    Row E q = takes.Document now (TargetsOffer r) doc D E q

    row_arrives : (s t : Src) (E : State) (q : Result Bool Fault) → Is s → Takes from now (wanted_row r version) s D t E q → Row E q × Is t × IsState E
    row_arrives s t E q is k =
        let a = arrives from Is S now honest (wanted_row r version) s t D E q is k in (
          document_arrives S now (dotted version r) (TargetsOffer r) doc (served news grant step shapes S sure coherent path is_path now D level.valid level.part r version h)
              ((read news grant step shapes S sure coherent path is_path now D level.valid level.part r version h).read.file.file.short) D E q a.0,
          a.1,
          arrives_valid step now _ _ D E q level.valid a.0,
        )

    row_fails : (fault : Fault) (E : State) → Row E (Err fault) → Agrees S E path now (Err fault)
    row_fails fault E (inl want) = want_agrees S E path now fault want
    row_fails fault E (inr (Ok U, o, e, right)) = absurd (err_ok fault e.1)
    row_fails fault E (inr (Err Same, o, e, right)) = absurd (err_ok fault e.1)
    row_fails fault E (inr (Err (orders.Denied d), o, e, right)) =
        subst (λ (f : Fault). Agrees S E path now (Err f)) (sym (fault_is fault d e.1))
        (deny_agrees S E path now d
        (refuses news grant step shapes S sure coherent path is_path now D level.valid level.part r version h
        (role_room news grant step shapes S sure coherent path is_path now D level.valid level.part r version h names level) d o)
        (RoleMissing r version) (subst (λ (X : State). grants X path None now (Err (orders.Denied (RoleMissing r version)))) (sym e.0) h))

    row_further : (E : State) → Row E (Ok true) → IsState E → Level S E path now (names ++ (wanted_row r version).name ∷ [])
    row_further E (inl want) good = absurd want
    row_further E (inr (Ok U, o, e, right)) good =
        let is = e.0 ∙ ap (λ (T : Trusted). with_trusted D T) (puts news grant step shapes S sure coherent path is_path now D level.valid level.part r version h U o) in
        subst (λ (X : State). Level S X path now (names ++ (wanted_row r version).name ∷ [])) (sym is)
        (role_level news grant step shapes S sure coherent path is_path now D level.valid level.part r version h names level (subst IsState is good))
    row_further E (inr (Err Same, o, e, right)) good = absurd (not_same news grant step shapes S sure coherent path is_path now D level.valid level.part r version h o)
    row_further E (inr (Err (orders.Denied d), o, e, right)) good = absurd (ok_err d e.1)

    row_there : (E : State) → Row E (Ok false) → ⊥
    row_there E (inl want) = want
    row_there E (inr (j, o, e, right)) = true_false (sym (right false refl))

    row_again : has_name names (wanted_row r version).name ≡ true → ⊥
    row_again e = role_new news grant step shapes S sure coherent path is_path now D level.valid level.part r version h names level ((any_in names (wanted_row r version).name).0 e)

    row_enough : length names ≡ 194 → ⊥
    row_enough e = role_enough news grant step shapes S sure coherent path is_path now D level.valid level.part r version h names level e

  -- ---- a file
  module _ (D : State) (names : Names) (level : Level S D path now names) (at digest : Bytes) (len : ℕ) (h : grants D path None now (Err (orders.Denied (BlobMissing at digest len))))
      (text : Bytes) (asks : IsNameOf text at (Some digest)) where
    abbrev Has : Option Bytes → Type 0
    Has = IsHeldAs S now (codes "targets/" ++ text)

    bytes_of : (b : Bytes) → Has (Some b) → grants S at (Some digest) now (Ok b)
    bytes_of b k = k.target text at (Some digest) refl asks

    put_in : (b : Bytes) (E : State) (q : Result (Unit {0}) Fault) → Has (Some b) → Makes now (PutBlob digest b) D E q
        → IsWanting q ⊎ ((E ≡ record D { blobs = with_row before D.blobs digest b }) × (q ≡ Ok tt))
    put_in b E q k m = by (put_comes now D E digest b q m)
      where
        by : Comes (put_blob D digest b) (λ T. T) D E q
            → IsWanting q ⊎ ((E ≡ record D { blobs = with_row before D.blobs digest b }) × (q ≡ Ok tt))
        by (inl want) = inl want.0
        by (inr (j, o, e)) =
            inr (subst (λ (x : Judged State). EndsAs (λ T. T) D E q x)
            (step.puts D digest b j _ o (stores news grant step shapes S sure coherent path is_path now D level.valid level.part at digest len h b (bytes_of b k))) e)

    too_long : (b : Bytes) → Has (Some b) → min len blob_limit < length b → ⊥
    too_long b k long =
        let is = is_blob news grant step shapes S sure coherent path is_path now D level.valid level.part at digest len h b (bytes_of b k) in
        let size : length b ≡ len = is.1 in
        let most : length b ≤ blob_limit = is.3 in
        below len size most long
      where
        below : (n : ℕ) → length b ≡ n → length b ≤ blob_limit → min n blob_limit < length b → ⊥
        below n size most long = omega (arith, size, most, long)

    file_fails : (fault : Fault) (E : State) → Arrives now (wanted_blob text digest len) Has D E (Err fault) → Agrees S E path now (Err fault)
    file_fails fault E (unmade b k m) = by (put_in b E (Err fault) k m)
      where
        by : IsWanting {A = Unit {0}} (Err fault) ⊎ ((E ≡ record D { blobs = with_row before D.blobs digest b }) × (◌≡◌ {A = Result (Unit {0}) Fault} (Err fault) (Ok tt)))
            → Agrees S E path now (Err fault)
        by (inl want) = want_agrees S E path now fault want
        by (inr e) = absurd (err_ok fault e.1)
    file_fails _ _ (longer b k long) = absurd (too_long b k long)
    file_fails fault _ (wants want) = want_agrees S D path now fault want

    file_absent : (E : State) → Arrives now (wanted_blob text digest len) Has D E (Ok false) → Agrees S E path now (Err (views.Denied (BlobMissing at digest len)))
    file_absent _ (nothing k) =
        let d = k.target text at (Some digest) refl asks in
        deny_agrees S D path now (BlobMissing at digest len) (not_served news grant step shapes S sure coherent path is_path now D level.valid level.part at digest len h d.0 d.1) (BlobMissing at digest len) h

    file_further : (E : State) → Arrives now (wanted_blob text digest len) Has D E (Ok true) → IsState E → Level S E path now (names ++ (wanted_blob text digest len).name ∷ [])
    file_further E (made b k m) good = by (put_in b E (Ok tt) k m)
      where
        by : IsWanting {A = Unit {0}} (Ok tt) ⊎ ((E ≡ record D { blobs = with_row before D.blobs digest b }) × (◌≡◌ {A = Result (Unit {0}) Fault} (Ok tt) (Ok tt)))
            → Level S E path now (names ++ (wanted_blob text digest len).name ∷ [])
        by (inl want) = absurd want
        by (inr e) =
            subst (λ (X : State). Level S X path now (names ++ (wanted_blob text digest len).name ∷ [])) (sym e.0)
            (blob_level news grant step shapes S sure coherent path is_path now D level.valid level.part at digest len h b (bytes_of b k) names level text asks (subst IsState e.0 good))

    file_again : has_name names (wanted_blob text digest len).name ≡ true → ⊥
    file_again e =
        blob_new news grant step shapes S sure coherent path is_path now D level.valid level.part at digest len h names level text asks ((any_in names (wanted_blob text digest len).name).0 e)

    file_enough : length names ≡ 194 → ⊥
    file_enough e = blob_enough news grant step shapes S sure coherent path is_path now D level.valid level.part at digest len h names level e

  -- ---- the whole

  -- a denial at once
  denied_agrees : (D : State) (names : Names) (level : Level S D path now names) (d : Denial) → (IsKnown trusted D path now d → grants D path None now (Err (orders.Denied d)))
      → ((w : Wanted) → Misses d w → ⊥) → Agrees S D path now (Err (views.Denied d))
  denied_agrees D names level (Plain n) g none = ends_alike D level.part n (g (λ by has. trust))
  denied_agrees D names level (RoleMissing r version) g none =
      absurd (none (wanted_row r version) (role (role_named news grant step shapes S sure coherent path is_path now D level.valid level.part r version (g (λ by has. trust)))))
  denied_agrees D names level (BlobMissing at digest len) g none =
      let t = some_text news grant step shapes S sure coherent path is_path now D level.valid level.part at digest len (g (λ by has. trust)) in
      absurd (none (wanted_blob t.0 digest len) (blob t.1))

  pub fetch_agrees : (names : Names) (s t : Src) (D E : State) (r : Result Bytes Fault) → Is s → Level S D path now names → Fetches trusted from now path names s D t E r → Agrees S E path now r
  fetch_agrees names s _ D _ _ is level (session.ends (session.granted {b = b} g)) =
      let h = g trust in
      grant_agrees S D path now b (grant.same D S path None now (Ok b) level.part tt h) h
  fetch_agrees names s _ D _ _ is level (session.ends (session.denied {d = d} g none)) = denied_agrees D names level d g none
  fetch_agrees names s _ D _ _ is level (session.ends (session.again g (role {role = r} {version = v} named) e)) = absurd (row_again D names level r v g e)
  fetch_agrees names s _ D _ _ is level (session.ends (session.again g (blob {text = text} {path = at} {digest = digest} {len = len} asks) e)) = absurd (file_again D names level at digest len g text asks e)
  fetch_agrees names s _ D _ _ is level (session.ends (session.enough g (role {role = r} {version = v} named) e)) = absurd (row_enough D names level r v g e)
  fetch_agrees names s _ D _ _ is level (session.ends (session.enough g (blob {text = text} {path = at} {digest = digest} {len = len} asks) e)) = absurd (file_enough D names level at digest len g text asks e)
  fetch_agrees names s t D E _ is level (session.ends (session.absent g (role {role = r} {version = v} named) e l h)) = absurd (row_there D names level r v g E (row_arrives D names level r v g s t E (Ok false) is h).0)
  fetch_agrees names s t D E _ is level (session.ends (session.absent g (blob {text = text} {path = at} {digest = digest} {len = len} asks) e l h)) =
      file_absent D names level at digest len g text asks E (arrives from Is S now honest (wanted_blob text digest len) s t D E (Ok false) is h).0
  fetch_agrees names s t D E _ is level (session.ends (session.fails {fault = fault} g (role {role = r} {version = v} named) e l h)) =
      row_fails D names level r v g fault E (row_arrives D names level r v g s t E (Err fault) is h).0
  fetch_agrees names s t D E _ is level (session.ends (session.fails {fault = fault} g (blob {text = text} {path = at} {digest = digest} {len = len} asks) e l h)) =
      file_fails D names level at digest len g text asks fault E (arrives from Is S now honest (wanted_blob text digest len) s t D E (Err fault) is h).0
  fetch_agrees names s u D E r is level (session.further {t = t} {D = X} g (role {role = q} {version = v} named) e l h more) =
      let a = row_arrives D names level q v g s t X (Ok true) is h in
      fetch_agrees (names ++ (wanted_row q v).name ∷ []) t u X E r a.1 (row_further D names level q v g X a.0 a.2) more
  fetch_agrees names s u D E r is level (session.further {t = t} {D = X} g (blob {text = text} {path = at} {digest = digest} {len = len} asks) e l h more) =
      let a = arrives from Is S now honest (wanted_blob text digest len) s t D X (Ok true) is h in
      fetch_agrees (names ++ (wanted_blob text digest len).name ∷ []) t u X E r a.1
      (file_further D names level at digest len g text asks X a.0 (arrives_valid step now _ _ D X (Ok true) level.valid a.0)) more
  fetch_agrees names s _ D _ _ is level (session.ends (session.unanswered {fault = fault} f)) = want_agrees S D path now fault (unmade_wants fault f)

  misses_same : (D : State) (c : Denial) (n : ℕ) → grants D path None now (Err (orders.Denied c)) → grants D path None now (Err (orders.Denied (Plain n))) → (w : Wanted) → Misses c w → ⊥
  misses_same D c n k h w m = plain n w (subst (λ (x : Denial). Misses x w) (err_is c (Plain n) (grant.once D path None now (Err (orders.Denied c)) (Err (orders.Denied (Plain n))) k h)) m)
    where
      err_is : (c e : Denial) → ◌≡◌ {A = Judged Bytes} (Err (orders.Denied c)) (Err (orders.Denied e)) → c ≡ e
      err_is c e x = cc

      plain : (n : ℕ) (w : Wanted) → Misses (Plain n) w → ⊥
      plain n w m = elim m [ ]

  -- where both deny the target, so ends the fetch
  pub fetch_denied : (names : Names) (s t : Src) (D E : State) (r : Result Bytes Fault) (d n : ℕ) → grants S path None now (Err (orders.Denied (Plain d))) → grants D path None now (Err (orders.Denied (Plain n)))
      → Fetches trusted from now path names s D t E r → Agrees S E path now r
  fetch_denied names s _ D _ _ d n g h (session.ends (session.granted {b = b} k)) = absurd (ok_denied b (Plain n) (grant.once D path None now (Ok b) (Err (orders.Denied (Plain n))) (k trust) h))
  fetch_denied names s _ D _ _ d n g h (session.ends (session.denied {d = c} k l)) =
      deny_agrees S D path now c (λ b x. ok_denied b (Plain d) (grant.once S path None now (Ok b) (Err (orders.Denied (Plain d))) x g)) (Plain n) h
  fetch_denied names s _ D _ _ d n g h (session.ends (session.again {d = c} {w = w} k m _)) = absurd (misses_same D c n k h w m)
  fetch_denied names s _ D _ _ d n g h (session.ends (session.enough {d = c} {w = w} k m _)) = absurd (misses_same D c n k h w m)
  fetch_denied names s t D E _ d n g h (session.ends (session.absent {d = c} {w = w} k m _ _ _)) = absurd (misses_same D c n k h w m)
  fetch_denied names s t D E _ d n g h (session.ends (session.fails {d = c} {w = w} k m _ _ _)) = absurd (misses_same D c n k h w m)
  fetch_denied names s u D E r d n g h (session.further {d = c} {w = w} k m _ _ _ _) = absurd (misses_same D c n k h w m)
  fetch_denied names s _ D _ _ d n g h (session.ends (session.unanswered {fault = fault} f)) = want_agrees S D path now fault (unmade_wants fault f)
