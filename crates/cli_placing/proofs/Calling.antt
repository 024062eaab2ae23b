-- Calls that were made one after the other.
use Rattle.std.proofs.Common.{rules, ◌≡◌, ℕ, List, [], ◌∷◌, ◌++◌, Bool, true, false, refl, sym, ◌∙◌, ap, subst, append_assoc}
use Rattle.std.specs.Prelude.{Option, Some, None, All, is_ok, IsErr, Result, Ok, Err}
use Rattle.std.proofs.lemmas.List.{append-nil}
use Rattle.std.proofs.lemmas.List.Elements.{All-append, All-nil, All-push}
use Rattle.cli_placing.specs.Calls.{Call, Name, Step, Tells, create, did, look}
use Rattle.cli_placing.specs.Puts.{Called, IsBeside, IsLeft, IsRefused, Puts, Runs, begun, done, fails, filling, found_of, goes_on, no_file, none_begun}
use Rattle.cli_placing.specs.declared.calls.Found.{Found}
use Rattle.cli_placing.specs.declared.calls.Found.TheVariants.{Other}

-- nothing was called
pub called_none : (log : Option (List Call)) (P : List Call → Type 0) → P [] → Called log log P
called_none log P none = record { so = λ before is. ([], is ∙ ap (λ (calls : List Call). Some calls) (sym (append-nil before)), none) }

-- one call was made
pub called_one : (old new : Option (List Call)) (call : Call) (P : List Call → Type 0) → Tells old new call → P (call ∷ []) → Called old new P
called_one None new call P told one = record { so = λ before is. absurd (cc) }
called_one (Some known) new call P told one = record {
  so = λ before is.
      let same : known ≡ before = cc in
      (call ∷ [], told ∙ ap (λ (calls : List Call). Some (calls ++ call ∷ [])) same, one);
}

-- some calls were made, and then others
pub called_both : (a b c : Option (List Call)) (P Q R : List Call → Type 0) → Called a b P → Called b c Q
    → ((xs ys : List Call) → P xs → Q ys → R (xs ++ ys)) → Called a c R
called_both a b c P Q R p q both = record {
  so = λ before is.
      let one = p.so before is in
      let two = q.so (before ++ one.0) one.1 in
      (one.0 ++ two.0, two.1 ∙ ap (λ (calls : List Call). Some calls) (append_assoc before one.0 two.0), both one.0 two.0 one.2 two.2);
}

-- the same calls were made, of which something else is so
pub called_as : (a b : Option (List Call)) (P Q : List Call → Type 0) → Called a b P → ((xs : List Call) → P xs → Q xs) → Called a b Q
called_as a b P Q p means = record { so = λ before is. let one = p.so before is in (one.0, one.1, means one.0 one.2) }

-- one step alone
pub runs_one : (step : Step) (ok : Bool) → Runs (step ∷ []) (did step ok ∷ []) ok
runs_one step true = goes_on step [] [] true done
runs_one step false = fails step []

-- steps that were all made, and then others
pub runs_on : (xs ys : List Step) (calls more : List Call) (b ok : Bool) → b ≡ true → Runs xs calls b → Runs ys more ok → Runs (xs ++ ys) (calls ++ more) ok
runs_on xs ys calls more b ok all done rest = rest
runs_on xs ys calls more b ok all (fails step next) rest = absurd (cc)
runs_on xs ys calls more b ok all (goes_on step next others b' first) rest = goes_on step (next ++ ys) (others ++ more) ok (runs_on next ys others more b' ok all first rest)

-- steps of which one failed
pub runs_stop : (xs ys : List Step) (calls : List Call) (b : Bool) → b ≡ false → Runs xs calls b → Runs (xs ++ ys) calls false
runs_stop xs ys calls b one done = absurd (cc)
runs_stop xs ys calls b one (fails step next) = fails step (next ++ ys)
runs_stop xs ys calls b one (goes_on step next others b' first) = goes_on step (next ++ ys) others false (runs_stop next ys others b' one first)

-- steps that were all called, and then others
pub called_run : (a b c : Option (List Call)) (xs ys : List Step) (ok : Bool) → Called a b (λ calls. Runs xs calls true) → Called b c (λ calls. Runs ys calls ok)
    → Called a c (λ calls. Runs (xs ++ ys) calls ok)
called_run a b c xs ys ok first rest = called_both a b c (λ calls. Runs xs calls true) (λ calls. Runs ys calls ok) (λ calls. Runs (xs ++ ys) calls ok) first rest
    (λ calls more made made'. runs_on xs ys calls more true ok refl made made')

-- one step was called
pub called_step : (a b : Option (List Call)) (step : Step) (ok : Bool) → Tells a b (did step ok) → Called a b (λ calls. Runs (step ∷ []) calls ok)
called_step a b step ok told = called_one a b (did step ok) (λ calls. Runs (step ∷ []) calls ok) told (runs_one step ok)

not_ok : {X E : Type 0} (r : Result X E) → IsErr r → is_ok r ≡ false
not_ok (Ok x) err = absurd (search (rules, err))
not_ok (Err e) err = refl

-- steps of which one failed, and the error is handed on
pub called_stop : {X E : Type 0} (a b : Option (List Call)) (xs ys : List Step) (r : Result X E) → IsErr r → Called a b (λ calls. Runs xs calls false)
    → Called a b (λ calls. Runs (xs ++ ys) calls (is_ok r))
called_stop a b xs ys r err first = called_as a b (λ calls. Runs xs calls false) (λ calls. Runs (xs ++ ys) calls (is_ok r)) first
    (λ calls made. subst (λ ok. Runs (xs ++ ys) calls ok) (sym (not_ok r err)) (runs_stop xs ys calls false refl made))

-- something else stands there than a file
pub called_other : (a b : Option (List Call)) (place : Name) (found : Found) → found ≡ Other → Tells a b (look place (Some found))
    → Called a b (λ calls. (bytes : Name) (mode : ℕ) → Puts place bytes mode calls false)
called_other a b place found is told = called_one a b (look place (Some Other)) (λ calls. (bytes : Name) (mode : ℕ) → Puts place bytes mode calls false)
    (subst (λ (f : Found). Tells a b (look place (Some f))) is told) (λ bytes mode. no_file)

-- one more name that could not be had
pub called_refused : (a b c : Option (List Call)) (place : Name) (mode : ℕ) (text beside : Name) → text ≡ beside → IsBeside place beside
    → Called a b (λ calls. All (IsRefused place mode) calls) → Tells b c (did (create text mode) false)
    → Called a c (λ calls. All (IsRefused place mode) calls)
called_refused a b c place mode text beside same is before told = called_both a b c (λ calls. All (IsRefused place mode) calls) (λ calls. All (IsRefused place mode) calls)
    (λ calls. All (IsRefused place mode) calls) before
    (called_one b c (did (create text mode) false) (λ calls. All (IsRefused place mode) calls) told
    (All-push (IsRefused place mode) [] (did (create text mode) false) (All-nil (IsRefused place mode)) (beside, is, ap (λ (name : Name). did (create name mode) false) same)))
    (λ xs ys first rest. All-append (IsRefused place mode) xs ys first rest)

-- no file was begun
pub called_not_begun : {X E : Type 0} (a b c : Option (List Call)) (place bytes : Name) (mode : ℕ) (stood : Option ℕ) (r : Result X E) → IsErr r
    → Tells a b (look place (Some (found_of stood))) → Called b c (λ calls. All (IsRefused place mode) calls)
    → Called a c (λ calls. Puts place bytes mode calls (is_ok r))
called_not_begun a b c place bytes mode stood r err seen tried =
    called_both a b c (λ calls. calls ≡ look place (Some (found_of stood)) ∷ []) (λ calls. All (IsRefused place mode) calls) (λ calls. Puts place bytes mode calls (is_ok r))
    (called_one a b (look place (Some (found_of stood))) (λ calls. calls ≡ look place (Some (found_of stood)) ∷ []) seen refl) tried
    (λ xs ys is all. subst (λ ok. Puts place bytes mode (xs ++ ys) ok) (sym (not_ok r err))
    (subst (λ (calls : List Call). Puts place bytes mode (calls ++ ys) false) (sym is) (none_begun stood ys all)))

-- a file was begun, and the steps were made up to the end or the first failure
pub called_begun : (a b c d e : Option (List Call)) (place bytes : Name) (mode : ℕ) (stood : Option ℕ) (beside text : Name) (ok : Bool) → text ≡ beside → IsBeside place beside
    → Tells a b (look place (Some (found_of stood)))
    → Called b c (λ calls. (tried : List Call) × All (IsRefused place mode) tried × (calls ≡ tried ++ did (create beside mode) true ∷ []))
    → Called c d (λ calls. Runs (filling place text bytes stood) calls ok)
    → Called d e (λ calls. IsLeft beside ok calls)
    → Called a e (λ calls. Puts place bytes mode calls ok)
called_begun a b c d e place bytes mode stood beside text ok same is seen tried_then made left =
    let Seen : List Call → Type 0 = λ calls. calls ≡ look place (Some (found_of stood)) ∷ [] in
    let Begun : List Call → Type 0 = λ calls. (tried : List Call) × All (IsRefused place mode) tried × (calls ≡ tried ++ did (create beside mode) true ∷ []) in
    let Made : List Call → Type 0 = λ calls. Runs (filling place beside bytes stood) calls ok in
    let Left : List Call → Type 0 = λ calls. IsLeft beside ok calls in
    let Ended : List Call → Type 0 = λ calls. (made : List Call) × (last : List Call) × (calls ≡ made ++ last) × Made made × Left last in
    let Filled : List Call → Type 0 = λ calls. (xs : List Call) × (ys : List Call) × (calls ≡ xs ++ ys) × Begun xs × Ended ys in
    let made' : Called c d Made = subst (λ (name : Name). Called c d (λ calls. Runs (filling place name bytes stood) calls ok)) same made in
    let ended : Called c e Ended = called_both c d e Made Left Ended made' left (λ xs ys m l. (xs, ys, refl, m, l)) in
    let filled : Called b e Filled = called_both b c e Begun Ended Filled tried_then ended (λ xs ys m l. (xs, ys, refl, m, l)) in
    called_both a b e Seen Filled (λ calls. Puts place bytes mode calls ok) (called_one a b (look place (Some (found_of stood))) Seen seen refl) filled
    (λ xs ys looked (bs, es, both, (tried, refused, at), (ms, ls, parts, runs, last)). whole xs ys bs es tried ms ls looked both refused at parts runs last)
  where
    whole : (xs ys bs es tried ms ls : List Call) → xs ≡ look place (Some (found_of stood)) ∷ [] → ys ≡ bs ++ es → All (IsRefused place mode) tried
        → bs ≡ tried ++ did (create beside mode) true ∷ [] → es ≡ ms ++ ls → Runs (filling place beside bytes stood) ms ok → IsLeft beside ok ls
        → Puts place bytes mode (xs ++ ys) ok
    whole xs ys bs es tried ms ls looked both refused at parts runs last =
        let created : Call = did (create beside mode) true in
        let e : ys ≡ tried ++ created ∷ (ms ++ ls) =
        both ∙ ap (λ (l : List Call). l ++ es) at ∙ ap (λ (l : List Call). (tried ++ created ∷ []) ++ l) parts ∙ append_assoc tried (created ∷ []) (ms ++ ls) in
        subst (λ (l : List Call). Puts place bytes mode (l ++ ys) ok) (sym looked)
        (subst (λ (l : List Call). Puts place bytes mode (look place (Some (found_of stood)) ∷ l) ok) (sym e)
        (begun stood tried refused beside is ms ok runs ls last))

-- steps of which the last that was called failed, and the error is handed on
pub called_failed : {X E : Type 0} (a b : Option (List Call)) (xs : List Step) (r : Result X E) → IsErr r → Called a b (λ calls. Runs xs calls false)
    → Called a b (λ calls. Runs xs calls (is_ok r))
called_failed a b xs r err first = subst (λ ok. Called a b (λ calls. Runs xs calls ok)) (sym (not_ok r err)) first
