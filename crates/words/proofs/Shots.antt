-- What the calls of the snapshot make of its meaning.
use Rattle.std.proofs.Common.{◌≡◌, ℕ, suc, ◌+◌, ◌*◌, ◌<◌, ◌≤◌, min, List, ◌∷◌, length, take, drop, set, Ok, sym, refl, ap, ◌∙◌, subst, mul-le-mul_right, mul_comm, one-mul, add-one, arith}
use native.Mathlib.Nat.{zero-min, min-eq_left, min-eq_right, min-le_right}
use lib.Seq.{paste, take-set-lt}
use Rattle.std.proofs.lemmas.List.{length-take-le, length-drop, length-set, drop-set-lt}
use Rattle.std.proofs.lemmas.List.Edits.{length-paste}
use Rattle.words.specs.Meaning.{Meaning, Sets, Opens, Keeps, Drops, wrote, opened, dropped, levels, size}
use Rattle.words.specs.Making.{Fits, laid}
use Rattle.words.specs.Snapshot.{part, parts, width, snapshot_meaning, snapshot_lent}
use Rattle.words.proofs.Images.{same_meaning}
use Rattle.words.proofs.Parts.{take-before, part-before, part_within, drop-behind, parts_apart, behind-image, next-part, add_two, width_fits, width_room, parts_same, length-parts}

-- the meaning at a width and a number of levels that are known
abbrev shot : List ℕ → ℕ → ℕ → ℕ → Meaning
shot ws n d k = record { limit = d; image = take n ws; saved = parts ws n k }

shot_is : (ws : List ℕ) (n d k n' k' : ℕ) → width (length ws) n d ≡ n' → min k d ≡ k' → snapshot_meaning ws n d k ≡ shot ws n' d k'
shot_is ws n d k n' k' p q = λ i. shot ws (p i) d (q i)

-- ---- at a width n for which there is room

module _ (ws : List ℕ) (n d : ℕ) (room : n * (d + 1) ≤ length ws) where
  within : (k : ℕ) → k ≤ d → (k + 1) * n ≤ length ws
  within k few = omega (arith, mul_comm n (d + 1), mul-le-mul_right {m = k + 1} {n = d + 1} n (omega arith))

  image_within : n ≤ length ws
  image_within = omega (arith, within 0 (omega arith), one-mul n)

  image-size : length (take n ws) ≡ n
  image-size = length-take-le n ws image_within

  level_within : (k : ℕ) → k < d → (k + 1) * n + n ≤ length ws
  level_within k below = omega (arith, next-part k n, within (k + 1) (omega arith), ap (λ j. j * n) (add_two k))

  set-image : (k at w : ℕ) → at < n → shot (set ws at w) n d k ≡ wrote (shot ws n d k) at w
  set-image k at w below =
      same_meaning refl (take-set-lt n ws at w below)
      (parts_same ws (set ws at w) n k (λ level _. ap (take n) (drop-set-lt ((level + 1) * n) ws at w (omega (arith, behind-image level n)))))

  open_image : (k : ℕ) → k < d → shot (paste ws ((k + 1) * n) ws n) n d (suc k) ≡ opened (shot ws n d k)
  open_image k below =
      let fits = level_within k below in
      let saved : part (paste ws ((k + 1) * n) ws n) n k ≡ take n ws = part_within ws ws ((k + 1) * n) n fits image_within in
      let older : parts (paste ws ((k + 1) * n) ws n) n k ≡ parts ws n k =
      parts_same ws (paste ws ((k + 1) * n) ws n) n k (λ level less. part-before ws ws ((k + 1) * n) n fits image_within n ((level + 1) * n) (parts_apart level k n less)) in
      same_meaning refl (take-before ws ws ((k + 1) * n) n fits image_within n (behind-image k n)) (λ i. saved i ∷ older i)

  drop-image : (k : ℕ) → k < d → shot (paste ws 0 (drop ((k + 1) * n) ws) n) n d k ≡ dropped (shot ws n d (suc k))
  drop-image k below =
      let long : n ≤ length (drop ((k + 1) * n) ws) = simp length-drop (omega (arith, level_within k below)) in
      let fits : 0 + n ≤ length ws = omega (arith, image_within) in
      same_meaning refl (part_within ws (drop ((k + 1) * n) ws) 0 n fits long)
      (parts_same ws (paste ws 0 (drop ((k + 1) * n) ws) n) n k (λ level _. ap (take n) (drop-behind ws (drop ((k + 1) * n) ws) 0 n fits long ((level + 1) * n) (omega (arith, behind-image level n)))))

-- ---- the calls

module _ (ws : List ℕ) (n d : ℕ) where
  abbrev wide : ℕ
  wide = width (length ws) n d

  fit : wide * (d + 1) ≤ length ws
  fit = width_room (length ws) n d

  last_part : (k : ℕ) → k < d → (k + 1) * wide + wide ≤ wide * (d + 1)
  last_part k below = omega (arith, parts_apart k d wide below, mul_comm wide (d + 1))

  lent_same : (lender : ℕ) (ws' : List ℕ) → length ws' ≡ length ws → drop (wide * (d + 1)) ws' ≡ drop (wide * (d + 1)) ws
      → snapshot_lent lender ws' n d ≡ snapshot_lent lender ws n d
  lent_same lender ws' long behind =
      let same : width (length ws') n d ≡ wide = ap (λ l. width l n d) long in
      λ i. record { lender = lender; behind = (ap (λ m. drop (m * (d + 1)) ws') same ∙ behind) i }

  sets : (k at w : ℕ) → at < wide → Sets (snapshot_meaning ws n d k) (snapshot_meaning (set ws at w) n d k) at w (Ok tt)
  sets k at w below =
      let told = shot_is (set ws at w) n d k wide (min k d) (ap (λ l. width l n d) (length-set ws at w)) refl ∙ set-image ws wide d fit (min k d) at w below in (
        omega (arith, image-size ws wide d fit),
        told,
        ap size told ∙ length-set (take wide ws) at w,
      )

  pub set_told : (ws' : List ℕ) (k at w : ℕ) → at < wide → ws' ≡ set ws at w → Sets (snapshot_meaning ws n d k) (snapshot_meaning ws' n d k) at w (Ok tt)
  set_told ws' k at w below is = subst (λ x. Sets (snapshot_meaning ws n d k) (snapshot_meaning x n d k) at w (Ok tt)) (sym is) (sets k at w below)

  pub opens : (ws' : List ℕ) (k : ℕ) → k < d → ws' ≡ paste ws ((k + 1) * wide) ws wide → Opens (snapshot_meaning ws n d k) (snapshot_meaning ws' n d (k + 1)) (Ok tt)
  opens ws' k below copied =
      let few : min k d ≡ k = min-eq_left (omega arith) in
      let more : min (k + 1) d ≡ suc k = min-eq_left (omega arith) ∙ add-one k in
      let long : length ws' ≡ length ws = ap length copied ∙ length-paste ws ((k + 1) * wide) ws wide (level_within ws wide d fit k below) (image_within ws wide d fit) in (
        omega (arith, length-parts ws wide (min k d)),
        shot_is ws' n d (k + 1) wide (suc k) (ap (λ l. width l n d) long) more ∙ ap (λ xs. shot xs wide d (suc k)) copied
            ∙ open_image ws wide d fit k below ∙ ap (λ j. opened (shot ws wide d j)) (sym few),
      )

  pub opens_lent : (lender : ℕ) (ws' : List ℕ) (k : ℕ) → k < d → ws' ≡ paste ws ((k + 1) * wide) ws wide → snapshot_lent lender ws' n d ≡ snapshot_lent lender ws n d
  opens_lent lender ws' k below copied =
      let fits = level_within ws wide d fit k below in
      let long : length ws' ≡ length ws = ap length copied ∙ length-paste ws ((k + 1) * wide) ws wide fits (image_within ws wide d fit) in
      lent_same lender ws' long (ap (drop (wide * (d + 1))) copied ∙ drop-behind ws ws ((k + 1) * wide) wide fits (image_within ws wide d fit) (wide * (d + 1)) (last_part k below))

  pub opens_none : (k : ℕ) → d ≤ k → levels (snapshot_meaning ws n d k) ≡ d
  opens_none k above = length-parts ws wide (min k d) ∙ min-eq_right above

  pub keeps : (k k' : ℕ) → min k d ≡ suc k' → Keeps (snapshot_meaning ws n d k) (snapshot_meaning ws n d k') (Ok tt)
  keeps k k' some =
      let few : min k' d ≡ k' = min-eq_left (omega (arith, min-le_right k d)) in (
        omega (arith, length-parts ws wide (min k d)),
        same_meaning refl refl (ap (parts ws wide) few ∙ ap (λ j. drop 1 (parts ws wide j)) (sym some)),
      )

  pub drops : (ws' : List ℕ) (k k' : ℕ) → min k d ≡ suc k' → ws' ≡ paste ws 0 (drop ((k' + 1) * wide) ws) wide
      → Drops (snapshot_meaning ws n d k) (snapshot_meaning ws' n d k') (Ok tt)
  drops ws' k k' some copied =
      let below : k' < d = omega (arith, min-le_right k d) in
      let few : min k' d ≡ k' = min-eq_left (omega arith) in
      let source : wide ≤ length (drop ((k' + 1) * wide) ws) = simp length-drop (omega (arith, level_within ws wide d fit k' below)) in
      let long : length ws' ≡ length ws = ap length copied ∙ length-paste ws 0 (drop ((k' + 1) * wide) ws) wide (omega (arith, image_within ws wide d fit)) source in
      let same : width (length ws') n d ≡ wide = ap (λ l. width l n d) long in
      let after : size (snapshot_meaning ws' n d k') ≡ wide = ap (λ m. length (take m ws')) same ∙ length-take-le wide ws' (omega (arith, image_within ws wide d fit)) in (
        omega (arith, length-parts ws wide (min k d)),
        shot_is ws' n d k' wide k' same few ∙ ap (λ xs. shot xs wide d k') copied ∙ drop-image ws wide d fit k' below ∙ ap (λ j. dropped (shot ws wide d j)) (sym some),
        after ∙ sym (image-size ws wide d fit),
      )

  pub drops_lent : (lender : ℕ) (ws' : List ℕ) (k' : ℕ) → k' < d → ws' ≡ paste ws 0 (drop ((k' + 1) * wide) ws) wide
      → snapshot_lent lender ws' n d ≡ snapshot_lent lender ws n d
  drops_lent lender ws' k' below copied =
      let source : wide ≤ length (drop ((k' + 1) * wide) ws) = simp length-drop (omega (arith, level_within ws wide d fit k' below)) in
      let fits : 0 + wide ≤ length ws = omega (arith, image_within ws wide d fit) in
      let long : length ws' ≡ length ws = ap length copied ∙ length-paste ws 0 (drop ((k' + 1) * wide) ws) wide fits source in
      let before : 0 + wide ≤ wide * (d + 1) = omega (arith, behind-image d wide, mul_comm wide (d + 1)) in
      lent_same lender ws' long (ap (drop (wide * (d + 1))) copied ∙ drop-behind ws (drop ((k' + 1) * wide) ws) 0 wide fits source (wide * (d + 1)) before)

-- ---- the making

pub laid-shot : (n d : ℕ) (ws : List ℕ) → Fits n d (d + 1) (length ws) → snapshot_meaning ws n d 0 ≡ laid n d ws
laid-shot n d ws fits = shot_is ws n d 0 n 0 (width_fits (length ws) n d fits.room) (zero-min d)
