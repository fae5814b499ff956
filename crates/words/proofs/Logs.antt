-- What the calls of the inverse log make of its meaning.
use Rattle.std.proofs.Common.{◌≡◌, ℕ, suc, ◌+◌, ◌-◌, ◌*◌, ◌<◌, ◌≤◌, List, [], ◌∷◌, ◌++◌, length, get_or, take, drop, set, Ok, sym, refl, ap, ◌∙◌, subst, mul-le-mul_left, mul-one, add-one, arith}
use lib.Seq.{take-set-lt}
use Rattle.std.proofs.lemmas.List.{get_or-take, get_or_append_left, get_or_at, length-append, length-take-le, length-set, set-set, set-get_or, drop-set-lt, drop-drop}
use Rattle.arrayvec.specs.ArrayVec.{ArrayVec}
use Rattle.words.specs.declared.inverse_log.InverseLog.{InverseLog}
use Rattle.words.specs.Meaning.{Sets, Opens, Keeps, Drops, levels, newest, size}
use Rattle.words.specs.InverseLog.{undo, pile, log_meaning, log_lent, Notes}
use Rattle.words.specs.LogSteps.{meaning_of, Stays}
use Rattle.words.proofs.Blocks.{cell-rest}
use Rattle.words.proofs.Noting.{Sound, sound_of}
use Rattle.words.proofs.Images.{same_meaning}
use Rattle.words.proofs.Undoing.{undo-same, length-undo, pile-same, length-pile}

-- the image ends before what lies behind the memory that is needed
pub image-before : (n d : ℕ) → n ≤ n * (3 * d + 2)
image-before n d = omega (arith, mul-le-mul_left {m = 1} {n = 3 * d + 2} n (omega arith), mul-one n)

-- the levels' notes are as they were where all that lies behind the image is
pub pile-rest : (ws ws' : List ℕ) (n : ℕ) (noted : List ℕ) (k : ℕ) → drop n ws' ≡ drop n ws → (image : List ℕ) → pile ws' n noted k image ≡ pile ws n noted k image
pile-rest ws ws' n noted k rest =
    pile-same ws ws' n noted noted k
    (λ level _. undo-same ws ws' n level (get_or noted level 0) (λ i _. cell-rest ws ws' n (3 * level + 1) i (omega arith) rest) (λ i _. cell-rest ws ws' n (3 * level + 2) i (omega arith) rest))

pub behind-rest : (ws ws' : List ℕ) (n d : ℕ) → drop n ws' ≡ drop n ws → drop (n * (3 * d + 2)) ws' ≡ drop (n * (3 * d + 2)) ws
behind-rest ws ws' n d rest =
    let whole : n + (n * (3 * d + 2) - n) ≡ n * (3 * d + 2) = omega (arith, image-before n d) in
    ap (λ m. drop m ws') (sym whole) ∙ sym (drop-drop (n * (3 * d + 2) - n) n ws') ∙ ap (drop (n * (3 * d + 2) - n)) rest
    ∙ drop-drop (n * (3 * d + 2) - n) n ws ∙ ap (λ m. drop m ws) whole

lent_by : (lender lender' : ℕ) (ws ws' : List ℕ) (n d : ℕ) → lender' ≡ lender → drop (n * (3 * d + 2)) ws' ≡ drop (n * (3 * d + 2)) ws → log_lent lender' ws' n d ≡ log_lent lender ws n d
lent_by lender lender' ws ws' n d same behind = λ i. record { lender = same i; behind = behind i }

pub lent_rest : (lender lender' : ℕ) (ws ws' : List ℕ) (n d : ℕ) → lender' ≡ lender → drop n ws' ≡ drop n ws → log_lent lender' ws' n d ≡ log_lent lender ws n d
lent_rest lender lender' ws ws' n d same rest = lent_by lender lender' ws ws' n d same (behind-rest ws ws' n d rest)

-- the levels below one whose notes alone changed have saved what they had
older : (n d level : ℕ) (first : List ℕ → List ℕ) (ws noted ws' noted' : List ℕ) (k : ℕ) → k ≤ level → ((other : ℕ) → other < k → get_or noted other 0 ≤ n)
    → Notes n d level first ws noted ws' noted' → (image : List ℕ) → pile ws' n noted' k image ≡ pile ws n noted k image
older n d level first ws noted ws' noted' k below few h =
    pile-same ws ws' n noted noted' k
    (λ other less image.
    ap (λ m. undo ws' n other m image) (h.counts other (omega arith))
    ∙ undo-same ws ws' n other (get_or noted other 0)
    (λ i short. let most = few other less in h.words other i (omega arith) (omega arith))
    (λ i short. let most = few other less in h.values other i (omega arith) (omega arith)) image)

-- a level whose notes take back something first, and those below it, have saved what they saved when that is taken back first
pub piled : (n d level : ℕ) (first : List ℕ → List ℕ) (ws noted ws' noted' : List ℕ) → ((other : ℕ) → other < level → get_or noted other 0 ≤ n)
    → Notes n d level first ws noted ws' noted' → (image : List ℕ) → pile ws' n noted' (suc level) image ≡ pile ws n noted (suc level) (first image)
piled n d level first ws noted ws' noted' few h image =
    ap (λ im. im ∷ pile ws' n noted' level im) (h.undone image)
    ∙ ap (λ older'. undo ws n level (get_or noted level 0) (first image) ∷ older') (older n d level first ws noted ws' noted' level (omega arith) few h (undo ws n level (get_or noted level 0) (first image)))

-- ---- what stays

module _ (before after : InverseLog) (shape : after.shape ≡ before.shape) (lender : after.words.ghost_name ≡ before.words.ghost_name) where
  abbrev needed : ℕ
  needed = before.shape.size * (3 * before.shape.limit + 2)

  stays : length after.noted.items ≡ length before.noted.items → drop needed after.words.now ≡ drop needed before.words.now → Stays before after
  stays depth behind =
      record {
        shape = shape;
        depth = depth;
        lent =
            (λ i. log_lent after.words.ghost_name after.words.now (shape i).size (shape i).limit)
            ∙ lent_by before.words.ghost_name after.words.ghost_name before.words.now after.words.now before.shape.size before.shape.limit lender behind;
      }

  pub stays_noted : (level : ℕ) (first : List ℕ → List ℕ)
      → Notes before.shape.size before.shape.limit level first before.words.now before.noted.items after.words.now after.noted.items → Stays before after
  stays_noted level first h = stays h.depth h.behind

  pub stays_rest : after.noted ≡ before.noted → drop before.shape.size after.words.now ≡ drop before.shape.size before.words.now → Stays before after
  stays_rest noted rest =
      stays (ap (λ (v : ArrayVec _). length v.items) noted) (behind-rest before.words.now after.words.now before.shape.size before.shape.limit rest)

pub stays_then : (first second third : InverseLog) → Stays first second → Stays second third → Stays first third
stays_then first second third h g = record { shape = g.shape ∙ h.shape; depth = g.depth ∙ h.depth; lent = g.lent ∙ h.lent }

module _ (log : InverseLog) where
  abbrev ws : List ℕ
  ws = log.words.now

  abbrev n : ℕ
  n = log.shape.size

  abbrev d : ℕ
  d = log.shape.limit

  abbrev noted : List ℕ
  noted = log.noted.items

  abbrev k : ℕ
  k = length noted

  abbrev s : Sound ws n d k noted
  s = sound_of log

  pub image_within : n ≤ length ws
  image_within = omega (arith, s.room, image-before n d)

  image-size : length (take n ws) ≡ n
  image-size = length-take-le n ws image_within

  -- ---- set

  pub remembered : (ws' noted' : List ℕ) (level at former : ℕ) → k ≡ suc level → former ≡ get_or ws at 0 → at < n → Notes n d level (λ image. set image at former) ws noted ws' noted'
      → (word : ℕ) → pile ws' n noted' k (set (take n ws) at word) ≡ pile ws n noted k (take n ws)
  remembered ws' noted' level at former depth is below h word =
      let back : set (set (take n ws) at word) at former ≡ take n ws =
      set-set (take n ws) at word former ∙ ap (set (take n ws) at) (is ∙ sym (get_or-take n ws at 0 below)) ∙ set-get_or (take n ws) at 0 in
      ap (λ m. pile ws' n noted' m (set (take n ws) at word)) depth
      ∙ piled n d level (λ image. set image at former) ws noted ws' noted' (λ other less. s.counted other (omega arith)) h (set (take n ws) at word)
      ∙ ap (pile ws n noted (suc level)) back ∙ ap (λ m. pile ws n noted m (take n ws)) (sym depth)

  pub sets : (ws' noted' : List ℕ) (at word : ℕ) → at < n → take n ws' ≡ take n ws
      → pile ws' n noted' k (set (take n ws) at word) ≡ pile ws n noted k (take n ws)
      → Sets (meaning_of log) (log_meaning (set ws' at word) n d k noted') at word (Ok tt)
  sets ws' noted' at word below same saved =
      let image : take n (set ws' at word) ≡ set (take n ws) at word = take-set-lt n ws' at word below ∙ ap (λ im. set im at word) same in (
        omega (arith, image-size),
        same_meaning refl image
            (pile-rest ws' (set ws' at word) n noted' k (drop-set-lt n ws' at word below) (take n (set ws' at word)) ∙ ap (pile ws' n noted' k) image ∙ saved),
        ap length image ∙ length-set (take n ws) at word,
      )

  -- ---- open

  module _ (noted' : List ℕ) (more : noted' ≡ noted ++ 0 ∷ []) where
    counts-more : (level : ℕ) → level < k → get_or noted' level 0 ≡ get_or noted level 0
    counts-more level below = ap (λ xs. get_or xs level 0) more ∙ get_or_append_left noted (0 ∷ []) 0 level below

    none_noted : get_or noted' k 0 ≡ 0
    none_noted = ap (λ xs. get_or xs k 0) more ∙ get_or_at noted 0 [] 0 k refl

    depth-more : length noted' ≡ suc k
    depth-more = ap length more ∙ length-append noted (0 ∷ []) ∙ add-one k

    pub opens : k < d → Opens (meaning_of log) (log_meaning ws n d (length noted') noted') (Ok tt)
    opens below = (
      omega (arith, length-pile ws n noted k (take n ws)),
      same_meaning refl refl
          (ap (λ m. pile ws n noted' m (take n ws)) depth-more
          ∙ ap (λ m. undo ws n k m (take n ws) ∷ pile ws n noted' k (undo ws n k m (take n ws))) none_noted
          ∙ ap (λ older'. take n ws ∷ older') (pile-same ws ws n noted noted' k (λ level less image. ap (λ m. undo ws n level m image) (counts-more level less)) (take n ws))),
    )

  -- ---- keep and drop

  pub handed : (ws' noted' : List ℕ) (level : ℕ) → 0 < level → level < k → Notes n d (level - 1) (undo ws n level (get_or noted level 0)) ws noted ws' noted'
      → pile ws' n noted' level (take n ws) ≡ pile ws n noted level (undo ws n level (get_or noted level 0) (take n ws))
  handed ws' noted' level some below h =
      let next : suc (level - 1) ≡ level = omega arith in
      let merged = piled n d (level - 1) (undo ws n level (get_or noted level 0)) ws noted ws' noted' (λ other less. s.counted other (omega arith)) h (take n ws) in
      subst (λ m. pile ws' n noted' m (take n ws) ≡ pile ws n noted m (undo ws n level (get_or noted level 0) (take n ws))) next merged

  pub keeps : (ws' noted' : List ℕ) (level : ℕ) → k ≡ suc level → take n ws' ≡ take n ws
      → pile ws' n noted' level (take n ws) ≡ pile ws n noted level (undo ws n level (get_or noted level 0) (take n ws))
      → Keeps (meaning_of log) (log_meaning ws' n d level noted') (Ok tt)
  keeps ws' noted' level depth same saved = (
    omega (arith, length-pile ws n noted k (take n ws)),
    same_meaning refl same (ap (pile ws' n noted' level) same ∙ saved ∙ sym (ap (λ m. drop 1 (pile ws n noted m (take n ws))) depth)),
  )

  pub opens_none : d ≡ k → levels (meaning_of log) ≡ d
  opens_none full = length-pile ws n noted k (take n ws) ∙ sym full

  pub drops : (ws' : List ℕ) (level : ℕ) → k ≡ suc level → take n ws' ≡ undo ws n level (get_or noted level 0) (take n ws) → drop n ws' ≡ drop n ws
      → Drops (meaning_of log) (log_meaning ws' n d level noted) (Ok tt)
  drops ws' level depth image rest = (
    omega (arith, length-pile ws n noted k (take n ws)),
    same_meaning refl (image ∙ sym (ap (λ m. newest (pile ws n noted m (take n ws))) depth))
        (pile-rest ws ws' n noted level rest (take n ws') ∙ ap (pile ws n noted level) image ∙ sym (ap (λ m. drop 1 (pile ws n noted m (take n ws))) depth)),
    ap length image ∙ length-undo ws n level (get_or noted level 0) (take n ws),
  )

-- ---- the newest level gone

module _ (ws : List ℕ) (n d level : ℕ) (noted noted' : List ℕ) (some : level ≤ length noted) (fewer : noted' ≡ take level noted) where
  depth-fewer : length noted' ≡ level
  depth-fewer = ap length fewer ∙ length-take-le level noted some

  counts-fewer : (other : ℕ) → other < level → get_or noted' other 0 ≡ get_or noted other 0
  counts-fewer other less = ap (λ xs. get_or xs other 0) fewer ∙ get_or-take level noted other 0 less

  pub meaning-fewer : log_meaning ws n d (length noted') noted' ≡ log_meaning ws n d level noted
  meaning-fewer =
      same_meaning refl refl
      (ap (λ m. pile ws n noted' m (take n ws)) depth-fewer
      ∙ pile-same ws ws n noted noted' level (λ other less image. ap (λ m. undo ws n other m image) (counts-fewer other less)) (take n ws))

-- ---- set, once the former value is noted

pub set_told : (before after : InverseLog) (at word : ℕ) → at < before.shape.size
    → take before.shape.size after.words.now ≡ take before.shape.size before.words.now
    → ((w : ℕ) → pile after.words.now before.shape.size after.noted.items (length before.noted.items) (set (take before.shape.size before.words.now) at w)
    ≡ pile before.words.now before.shape.size before.noted.items (length before.noted.items) (take before.shape.size before.words.now))
    → Stays before after
    → Sets (meaning_of before) (log_meaning (set after.words.now at word) after.shape.size after.shape.limit (length after.noted.items) after.noted.items) at word (Ok tt)
set_told before after at word below image saved stays =
    let told = sets before after.words.now after.noted.items at word below image (saved word) in
    let ws = set after.words.now at word in
    let same
    : log_meaning ws after.shape.size after.shape.limit (length after.noted.items) after.noted.items
    ≡ log_meaning ws before.shape.size before.shape.limit (length before.noted.items) after.noted.items =
    λ i. log_meaning ws (stays.shape i).size (stays.shape i).limit (stays.depth i) after.noted.items in
    (told.0, same ∙ told.1, ap size same ∙ told.2)
