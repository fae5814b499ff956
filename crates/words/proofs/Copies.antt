-- Copying one part of a list over another.
use Rattle.std.proofs.Common.{◌≡◌, ℕ, ◌+◌, ◌-◌, ◌<◌, ◌≤◌, ◌⊎◌, List, ◌++◌, length, get_or, take, drop, set, sym, ap, ◌∙◌, inl, inr, ⊎_elim, arith, rules}
use borrow.Rule.Slice.PartMut.{put_mid}
use lib.Seq.{paste}
use Rattle.std.proofs.lemmas.List.{places, get_or-drop, length-take-le, length-drop, take-append-drop, set-append_left, set-append_right}
use Rattle.std.proofs.lemmas.List.Edits.{length-paste, paste_more}

-- a word written into a part is written into the whole
pub put-mid : (ws : List ℕ) (at n i v : ℕ) → at + n ≤ length ws → i < n → put_mid at n ws (set (take n (drop at ws)) i v) ≡ set ws (at + i) v
put-mid ws at n i v fits below =
    let split : ws ≡ take at ws ++ drop at ws = sym (take-append-drop at ws) in
    let rest : drop at ws ≡ take n (drop at ws) ++ drop n (drop at ws) = sym (take-append-drop n (drop at ws)) in
    let short : length (take n (drop at ws)) ≡ n = length-take-le n (drop at ws) (simp length-drop (omega arith)) in
    let inner : set (drop at ws) i v ≡ set (take n (drop at ws)) i v ++ drop n (drop at ws) =
    ap (λ xs. set xs i v) rest ∙ set-append_left (take n (drop at ws)) (drop n (drop at ws)) i v (omega arith) in
    let front : length (take at ws) ≡ at = length-take-le at ws (omega arith) in
    let outer : set ws (at + i) v ≡ take at ws ++ set (drop at ws) (at + i - at) v =
    ap (λ xs. set xs (at + i) v) split ∙ set-append_right (take at ws) (drop at ws) at (at + i) v front (omega arith) in
    let same : at + i - at ≡ i = omega arith in
    sym (outer ∙ ap (λ k. take at ws ++ set (drop at ws) k v) same ∙ ap (λ xs. take at ws ++ xs) inner)

-- a copy reads what the part that it copies held at first
pub paste_apart : (ws src : List ℕ) (to n i k : ℕ) → to + n ≤ length ws → n ≤ length src → i ≤ n → (k < to) ⊎ (to + n ≤ k) → get_or (paste ws to src i) k 0 ≡ get_or ws k 0
paste_apart ws src to n i k fits long some (inl before) = search (rules, places)
paste_apart ws src to n i k fits long some (inr behind) = search (rules, places)

-- one word more of a copy within a list, from one part to another that does not meet it
module _ (ws : List ℕ) (from to n : ℕ) (source : from + n ≤ length ws) (target : to + n ≤ length ws) (apart : (from + n ≤ to) ⊎ (to + n ≤ from)) where
  read_apart : (i k : ℕ) → i < n → k < n → get_or (paste ws to (drop from ws) i) (from + k) 0 ≡ get_or (drop from ws) k 0
  read_apart i k some below =
      let long : n ≤ length (drop from ws) = simp length-drop (omega arith) in
      let side : (from + k < to) ⊎ (to + n ≤ from + k) = ⊎_elim (λ h. inl (omega arith)) (λ h. inr (omega arith)) apart in
      paste_apart ws (drop from ws) to n i (from + k) target long (omega arith) side ∙ sym (get_or-drop from ws k 0)

  pub copy_more : (now part : List ℕ) (m i : ℕ) → m ≡ n → i < n → now ≡ paste ws to (drop from ws) i
      → part ≡ set (take m (drop to now)) i (get_or now (from + i) 0) → put_mid to m now part ≡ paste ws to (drop from ws) (i + 1)
  copy_more now part m i whole below so_far written =
      let long : n ≤ length (drop from ws) = simp length-drop (omega arith) in
      let keeps : length now ≡ length ws = ap length so_far ∙ length-paste ws to (drop from ws) i (omega arith) (omega arith) in
      let word : get_or now (from + i) 0 ≡ get_or (drop from ws) i 0 = ap (λ xs. get_or xs (from + i) 0) so_far ∙ read_apart i i below below in
      let here : part ≡ set (take n (drop to now)) i (get_or now (from + i) 0) = written ∙ ap (λ k. set (take k (drop to now)) i (get_or now (from + i) 0)) whole in
      ap (put_mid to m now) here ∙ ap (λ k. put_mid to k now (set (take n (drop to now)) i (get_or now (from + i) 0))) whole
      ∙ put-mid now to n i (get_or now (from + i) 0) (omega arith) below
      ∙ ap (λ v. set now (to + i) v) word ∙ ap (λ xs. set xs (to + i) (get_or (drop from ws) i 0)) so_far
      ∙ paste_more ws to (drop from ws) i 0 (omega arith) (omega arith)
