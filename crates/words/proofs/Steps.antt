-- The turns of the loops that take a level's notes back, and that hand them to the level below.
use Rattle.std.proofs.Common.{◌≡◌, ℕ, ◌+◌, ◌*◌, ◌<◌, ◌≢◌, List, length, get_or, take, drop, set, sym, ap, ◌∙◌, subst, add-one, arith}
use lib.Seq.{take-set-lt}
use Rattle.std.proofs.lemmas.List.{drop-set-lt}
use Rattle.words.specs.declared.inverse_log.InverseLog.{InverseLog}
use Rattle.words.specs.InverseLog.{word_at, value_at, undo, Notes}
use Rattle.words.proofs.Blocks.{cell-rest}

-- ---- taking back

module _ (log : InverseLog) (level place w v : ℕ) (used : level < length log.noted.items) (noted : place < get_or log.noted.items level 0)
    (w-is : w ≡ word_at log.words.now log.shape.size level place) (v-is : v ≡ value_at log.words.now log.shape.size level place) where
  abbrev memory : List ℕ
  memory = log.words.now

  pub word_below : w < log.shape.size
  word_below = rw w-is (log.within level place (used, noted))

  pub rest_taken : (n : ℕ) (ws : List ℕ) → log.shape.size ≡ n → drop n memory ≡ drop n ws → drop n (set memory w v) ≡ drop n ws
  rest_taken n ws size rest = drop-set-lt n memory w v (subst (λ m. w < m) size word_below) ∙ rest

  -- one note more is taken back
  pub taken_more : (n : ℕ) (ws image : List ℕ) → log.shape.size ≡ n → drop n memory ≡ drop n ws → undo ws n level (place + 1) (take n memory) ≡ image
      → undo ws n level place (take n (set memory w v)) ≡ image
  taken_more n ws image size rest left =
      let word : w ≡ word_at ws n level place = w-is ∙ ap (λ m. word_at memory m level place) size ∙ cell-rest ws memory n (3 * level + 1) place (omega arith) rest in
      let value : v ≡ value_at ws n level place = v-is ∙ ap (λ m. value_at memory m level place) size ∙ cell-rest ws memory n (3 * level + 2) place (omega arith) rest in
      ap (undo ws n level place) (take-set-lt n memory w v (subst (λ m. w < m) size word_below) ∙ (λ j. set (take n memory) (word j) (value j)))
      ∙ ap (λ m. undo ws n level m (take n memory)) (sym (add-one place)) ∙ left

-- ---- handing down

notes_by : (n d level : ℕ) (first first' : List ℕ → List ℕ) (ws noted ws' noted' : List ℕ) → ((image : List ℕ) → first image ≡ first' image)
    → Notes n d level first ws noted ws' noted' → Notes n d level first' ws noted ws' noted'
notes_by n d level first first' ws noted ws' noted' same h =
    record {
      image = h.image;
      behind = h.behind;
      undone = λ image. h.undone image ∙ ap (undo ws n level (get_or noted level 0)) (same image);
      words = h.words;
      values = h.values;
      depth = h.depth;
      counts = h.counts;
    }

notes_then : (n d level : ℕ) (first second : List ℕ → List ℕ) (ws noted ws' noted' ws'' noted'' : List ℕ) → Notes n d level first ws noted ws' noted'
    → Notes n d level second ws' noted' ws'' noted'' → Notes n d level (λ image. first (second image)) ws noted ws'' noted''
notes_then n d level first second ws noted ws' noted' ws'' noted'' h g =
    record {
      image = g.image ∙ h.image;
      behind = g.behind ∙ h.behind;
      undone = λ image. g.undone image ∙ h.undone (second image);
      words = λ other i ne short. g.words other i ne short ∙ h.words other i ne short;
      values = λ other i ne short. g.values other i ne short ∙ h.values other i ne short;
      depth = g.depth ∙ h.depth;
      counts = λ other ne. g.counts other ne ∙ h.counts other ne;
    }

pub handed_more : (n d n' d' below level i w v : ℕ) (ws noted ws' noted' ws'' noted'' : List ℕ) → n' ≡ n → d' ≡ d → level ≢ below → i < n
    → w ≡ word_at ws' n level i → v ≡ value_at ws' n level i → Notes n d below (undo ws n level i) ws noted ws' noted'
    → Notes n' d' below (λ image. set image w v) ws' noted' ws'' noted'' → Notes n d below (undo ws n level (i + 1)) ws noted ws'' noted''
handed_more n d n' d' below level i w v ws noted ws' noted' ws'' noted'' n-is d-is apart short word value so_far new =
    let one : Notes n d below (λ image. set image w v) ws' noted' ws'' noted'' = subst (λ (p : ℕ × ℕ). Notes p.0 p.1 below (λ image. set image w v) ws' noted' ws'' noted'') (λ j. (n-is j, d-is j)) new in
    let w-is : w ≡ word_at ws n level i = word ∙ so_far.words level i apart short in
    let v-is : v ≡ value_at ws n level i = value ∙ so_far.values level i apart short in
    notes_by n d below (λ image. undo ws n level i (set image w v)) (undo ws n level (i + 1)) ws noted ws'' noted''
    (λ image. ap (undo ws n level i) (λ j. set image (w-is j) (v-is j)) ∙ ap (λ m. undo ws n level m image) (sym (add-one i)))
    (notes_then n d below (undo ws n level i) (λ image. set image w v) ws noted ws' noted' ws'' noted'' so_far one)
