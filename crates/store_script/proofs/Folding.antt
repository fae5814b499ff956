-- Digits that a fold reads one after another, by a call at each.
use Rattle.std.proofs.Common.{◌≡◌, ℕ, ◌+◌, ◌-◌, ◌*◌, ◌^◌, ◌<◌, ◌≤◌, List, [], ◌∷◌, length, Some, None, Option, MatchOption, IfSome, ControlFlow, sym, refl, ap, ◌∙◌, subst, arith}
use Rattle.std.specs.Iterator.{AlwaysYields, Yields, TryFoldTurn, TryFoldsItems}
use Rattle.std.specs.List.{FoldsTo}
use Rattle.std.specs.ControlFlow.{continue_value}
use Rattle.std.specs.Fn.{Mut, Called}
use Rattle.std.proofs.lemmas.Iterator.{YieldsList}
use Rattle.store_script.specs.Commands.{Digits, Decimal}
use Rattle.store_script.proofs.Reading.{digits_grow}

-- one more digit, as `append_digit` reads it
abbrev pub Appends : ℕ → ℕ → Option ℕ → Type 0
Appends n b r = MatchOption r (48 ≤ b → b ≤ 57 → 2 ^ 32 ≤ n * 10 + (b - 48)) (λ m. (48 ≤ b) × (b ≤ 57) × (m ≡ n * 10 + (b - 48)))

abbrev pub goes : {E : Type 0} → Option ℕ → ControlFlow E ℕ → Type 0
goes r c = r ≡ continue_value c

module _ {S F A : Type 0} (E : Type 0) (steps : S → Option A → S → Type 0) (v : A → ℕ) (g : Mut F (ℕ × (A × Unit {0})) (Option ℕ)) (f : F)
    (reads : (n : ℕ) (x : A) (r : Option ℕ) (q : F) → Called g f (n, (x, tt)) r q → (q ≡ f) × Appends n (v x) r) where
  turn : (p q : F × ℕ) (x : A) → p.0 ≡ f → TryFoldTurn {E = E} g goes p x q → (q.0 ≡ f) × (48 ≤ v x) × (v x ≤ 57) × (q.1 ≡ p.1 * 10 + (v x - 48))
  turn p q x same t =
      let told = reads p.1 x t.0 q.0 (subst (λ k. Called g k (p.1, (x, tt)) t.0 q.0) same t.1) in
      let digit = subst (λ r. Appends p.1 (v x) r) t.2 told.1 in (told.0, digit.0, digit.1, digit.2)

  -- what is left to read says, behind what was read, what all says
  record Left (all : List ℕ) (before : ℕ) (q : F × ℕ) (o : Option A) : Type 0 where
    same : q.0 ≡ f
    left : List ℕ
    onward : (n : ℕ) → Digits all before n → Digits left q.1 n
    back : (n : ℕ) → Digits left q.1 n → Digits all before n
    next : MatchOption o (left ≡ []) (λ x. (more : List ℕ) × (left ≡ v x ∷ more))

  run : (xs : List A) (all : List ℕ) (s t u : S) (p q : F × ℕ) (o : Option A) → p.0 ≡ f → AlwaysYields steps v s all → Yields steps s xs t
      → FoldsTo {P = F × ℕ} (TryFoldTurn {E = E} g goes) p xs q → steps t o u → Left all p.1 q o
  run [] [] s t u p q None same e y c h = subst (λ z. Left [] p.1 z None) c (record { same = same; left = []; onward = λ n d. d; back = λ n d. d; next = refl })
  run [] [] s t u p q (Some x) same e y c h = absurd (e x u (subst (λ k. steps k (Some x) u) (sym y) h))
  run [] (z ∷ all) s t u p q None same e y c h = absurd (e.0 u (subst (λ k. steps k None u) (sym y) h))
  run [] (z ∷ all) s t u p q (Some x) same e y c h =
      let at = e.1 x u (subst (λ k. steps k (Some x) u) (sym y) h) in
      subst (λ w. Left (z ∷ all) p.1 w (Some x)) c
      (record { same = same; left = z ∷ all; onward = λ n d. d; back = λ n d. d; next = (all, ap (λ b. b ∷ all) (sym at.0)) })
  run (x ∷ xs) [] s t u p q o same e y c h = absurd (e x y.0 y.1)
  run (x ∷ xs) (z ∷ all) s t u p q o same e y c h =
      let at = e.1 x y.0 y.1 in
      let told = turn p c.0 x same c.1 in
      let rest = run xs all y.0 t u c.0 q o told.0 at.1 y.2 c.2 h in
      let read : c.0.1 ≡ p.1 * 10 + (z - 48) = told.3 ∙ ap (λ b. p.1 * 10 + (b - 48)) at.0 in
      record {
        same = rest.same;
        left = rest.left;
        onward = λ n d. rest.onward n (subst (λ m. Digits all m n) (sym read) d.2);
        back = λ n d. (subst (λ b. 48 ≤ b) at.0 told.1, subst (λ b. b ≤ 57) at.0 told.2, subst (λ m. Digits all m n) read (rest.back n d));
        next = rest.next;
      }

  pub decimal_read : (all : List ℕ) (s u : S) (r : Option ℕ) → 0 < length all → YieldsList steps v s all → IfSome r (λ n. n < 2 ^ 32)
      → TryFoldsItems steps g (goes {E = E}) (λ _ t. t ≡ None) s f 0 r u → MatchOption r ((n : ℕ) → Decimal all n → ⊥) (λ n. Decimal all n)
  decimal_read all s u r some e small ran =
      ends ran.1 r small (run ran.0 all s ran.4.0 u (f, 0) (ran.2, ran.3) ran.1 refl e.runs ran.4.1 ran.5 ran.4.2) ran.6
    where
      Ends : Option A → Option ℕ → Type 0
      Ends o t = MatchOption o (t ≡ Some ran.3) (λ x. (w : Option ℕ) × (h : F) × (i : E) × Called g ran.2 (ran.3, (x, tt)) w h × (w ≡ None) × (t ≡ None))

      ends : (o : Option A) (t : Option ℕ) → IfSome t (λ n. n < 2 ^ 32) → Left all 0 (ran.2, ran.3) o → Ends o t → MatchOption t ((n : ℕ) → Decimal all n → ⊥) (λ n. Decimal all n)
      ends None t less k is =
          subst (λ w. MatchOption w ((n : ℕ) → Decimal all n → ⊥) (λ n. Decimal all n)) (sym is)
          (some, k.back ran.3 (subst (λ bs. Digits bs ran.3 ran.3) (sym k.next) refl), subst (λ w. IfSome w (λ n. n < 2 ^ 32)) is less)
      ends (Some x) t less k stop =
          subst (λ w. MatchOption w ((n : ℕ) → Decimal all n → ⊥) (λ n. Decimal all n)) (sym stop.5)
          (λ n d.
          let read = subst (λ bs. Digits bs ran.3 n) k.next.1 (k.onward n d.1) in
          let most = digits_grow k.next.0 (ran.3 * 10 + (v x - 48)) n read.2 in
          let told = (reads ran.3 x stop.0 stop.1 (subst (λ c. Called g c (ran.3, (x, tt)) stop.0 stop.1) k.same stop.3)).1 in
          let least = subst (λ w. Appends ran.3 (v x) w) stop.4 told read.0 read.1 in
          omega (arith, most, least, d.2))
