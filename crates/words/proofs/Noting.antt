-- One note more in a level.
use Rattle.std.proofs.Common.{◌≡◌, ℕ, ◌+◌, ◌*◌, ◌<◌, ◌≤◌, ◌≢◌, List, length, get_or, drop, set, sym, refl, ap, ◌∙◌, subst, ⊎_elim, add-one, arith}
use Rattle.std.proofs.lemmas.List.{get_or-set_same, get_or-set_other, length-set, drop-set-lt, take_at}
use Rattle.std.specs.List.{refill}
use Rattle.std.proofs.lemmas.Bool.{cases_eq}
use Rattle.words.specs.declared.inverse_log.InverseLog.{InverseLog}
use Rattle.words.specs.InverseLog.{cell, word_at, value_at, place_of, undo, NoteAt, Within, Placed, HasNoted, Notes}
use Rattle.words.proofs.Blocks.{cell_within, cell-set-same, cell-set_other, image-set}
use Rattle.words.proofs.Pigeonhole.{room_left}
use Rattle.words.proofs.Undoing.{undo-same, undo_noted}

-- what the ghost fields of an inverse log say
pub record Sound (ws : List ℕ) (n d k : ℕ) (noted : List ℕ) : Type 0 where
  pub room : n * (3 * d + 2) ≤ length ws
  pub few : n ≤ 65536
  pub low : d ≤ 8
  pub shallow : k ≤ d
  pub counted : (level : ℕ) → level < k → get_or noted level 0 ≤ n
  pub within : Within ws n k noted
  pub placed : Placed ws n k noted

-- the same, in the form in which they are owed
abbrev pub Owed : List ℕ → ℕ → ℕ → ℕ → List ℕ → Type 0
Owed ws n d k noted = record {
  room : n * (3 * d + 2) ≤ length ws;
  shallow : k ≤ d;
  counted : (level : ℕ) → level < k → get_or noted level 0 ≤ n;
  within : Within ws n k noted;
  placed : Placed ws n k noted;
}

pub owed : (ws : List ℕ) (n d k : ℕ) (noted : List ℕ) → Sound ws n d k noted → Owed ws n d k noted
owed ws n d k noted s = record { room = s.room; shallow = s.shallow; counted = s.counted; within = s.within; placed = s.placed }

module _ (ws : List ℕ) (n d k : ℕ) (noted : List ℕ) (s : Sound ws n d k noted) where
  -- a word written where no note looks
  pub sound_set : (b at v : ℕ) → at < n → ((level i : ℕ) → NoteAt k noted level i → b ≡ 3 * level + 1 → i ≢ at)
      → ((level i : ℕ) → NoteAt k noted level i → b ≡ 3 * level + 3 → word_at ws n level i ≢ at) → Sound (set ws (b * n + at) v) n d k noted
  sound_set b at v below words places =
      let ws' : List ℕ = set ws (b * n + at) v in
      let short : (level i : ℕ) → NoteAt k noted level i → i < n = λ level i h. let most = s.counted level h.0 in omega (arith, h.1) in
      let word : (level i : ℕ) → NoteAt k noted level i → word_at ws' n level i ≡ word_at ws n level i =
      λ level i h. cell-set_other ws n b at v (3 * level + 1) i (words level i h) below (short level i h) in
      let place : (level i : ℕ) → NoteAt k noted level i → place_of ws' n level (word_at ws n level i) ≡ place_of ws n level (word_at ws n level i) =
      λ level i h. cell-set_other ws n b at v (3 * level + 3) (word_at ws n level i) (places level i h) below (s.within level i h) in
      record {
        room = rw length-set s.room;
        few = s.few;
        low = s.low;
        shallow = s.shallow;
        counted = s.counted;
        within = λ level i h. rw (word level i h) (s.within level i h);
        placed = λ level i h. ap (place_of ws' n level) (word level i h) ∙ place level i h ∙ s.placed level i h;
      }

module _ (ws : List ℕ) (n d k : ℕ) (noted : List ℕ) (s : Sound ws n d k noted) (level at former : ℕ) (used : level < k) (below : at < n) (array : level < length noted)
    (missing : HasNoted ws n level (get_or noted level 0) at → ⊥) where
  abbrev count : ℕ
  count = get_or noted level 0

  pub room_for_note : count < n
  room_for_note =
      room_left n count at (word_at ws n level) (λ i h. s.within level i (used, h))
      (λ i j h m e. let same = sym (s.placed level i (used, omega arith)) ∙ ap (place_of ws n level) e ∙ s.placed level j (used, m) in omega arith)
      below (λ i h e. missing (i, h, e))

  -- the three words that a note writes, one after another
  abbrev with_word : List ℕ
  with_word = set ws ((3 * level + 1) * n + count) at

  abbrev with_value : List ℕ
  with_value = set with_word ((3 * level + 2) * n + count) former

  abbrev with_place : List ℕ
  with_place = set with_value ((3 * level + 3) * n + at) count

  abbrev noted_more : List ℕ
  noted_more = set noted level (count + 1)

  same-level : (other : ℕ) → 3 * level + 1 ≡ 3 * other + 1 → other ≡ level
  same-level other e = omega arith

  sound_word : Sound with_word n d k noted
  sound_word =
      sound_set ws n d k noted s (3 * level + 1) count at room_for_note
      (λ other i h e last. let same = ap (λ l. get_or noted l 0) (same-level other e) in omega (arith, h.1))
      (λ other i h e is. omega arith)

  length-word : length with_word ≡ length ws
  length-word = length-set ws ((3 * level + 1) * n + count) at

  length-value : length with_value ≡ length ws
  length-value = length-set with_word ((3 * level + 2) * n + count) former ∙ length-word

  within_memory : (b i : ℕ) → b < 3 * d + 2 → i < n → b * n + i < length ws
  within_memory b i few short = cell_within n d b i (length ws) s.room few short

  -- what a note does not write
  through : (b j : ℕ) → j < n → (3 * level + 1 ≡ b → j ≢ count) → (3 * level + 2 ≡ b → j ≢ count) → (3 * level + 3 ≡ b → j ≢ at) → cell with_place n b j ≡ cell ws n b j
  through b j short word value place =
      cell-set_other with_value n (3 * level + 3) at count b j place below short
      ∙ cell-set_other with_word n (3 * level + 2) count former b j value room_for_note short
      ∙ cell-set_other ws n (3 * level + 1) count at b j word room_for_note short

  written-word : word_at with_place n level count ≡ at
  written-word =
      cell-set_other with_value n (3 * level + 3) at count (3 * level + 1) count (λ e _. omega arith) below room_for_note
      ∙ cell-set_other with_word n (3 * level + 2) count former (3 * level + 1) count (λ e _. omega arith) room_for_note room_for_note
      ∙ cell-set-same ws n (3 * level + 1) count at (within_memory (3 * level + 1) count (omega (arith, s.shallow)) room_for_note)

  written-value : value_at with_place n level count ≡ former
  written-value =
      cell-set_other with_value n (3 * level + 3) at count (3 * level + 2) count (λ e _. omega arith) below room_for_note
      ∙ cell-set-same with_word n (3 * level + 2) count former (rw length-word (within_memory (3 * level + 2) count (omega (arith, s.shallow)) room_for_note))

  written-place : place_of with_place n level at ≡ count
  written-place = cell-set-same with_value n (3 * level + 3) at count (rw length-value (within_memory (3 * level + 3) at (omega (arith, s.shallow)) below))

  sound_value : Sound with_value n d k noted
  sound_value = sound_set with_word n d k noted sound_word (3 * level + 2) count former room_for_note (λ other i h e last. omega arith) (λ other i h e is. omega arith)

  earlier_word : (i : ℕ) → i < count → word_at with_value n level i ≡ word_at ws n level i
  earlier_word i less =
      let short : i < n = omega (arith, room_for_note) in
      cell-set_other with_word n (3 * level + 2) count former (3 * level + 1) i (λ e _. omega arith) room_for_note short
      ∙ cell-set_other ws n (3 * level + 1) count at (3 * level + 1) i (λ _ e. omega arith) room_for_note short

  sound_place : Sound with_place n d k noted
  sound_place =
      sound_set with_value n d k noted sound_value (3 * level + 3) at count below (λ other i h e last. omega arith)
      (λ other i h e is.
      let same : other ≡ level = omega arith in
      let less : i < count = subst (λ l. i < get_or noted l 0) same h.1 in
      missing (i, less, sym (earlier_word i less) ∙ ap (λ l. word_at with_value n l i) (sym same) ∙ is))

  count_here : get_or noted_more level 0 ≡ count + 1
  count_here = get_or-set_same noted level (count + 1) 0 array

  count_other : (other : ℕ) → other ≢ level → get_or noted_more other 0 ≡ get_or noted other 0
  count_other other ne = get_or-set_other noted level other (count + 1) 0 ne

  -- a fact of every note, from the notes that were and the new one
  each_note : (P : ℕ → ℕ → Type 0) → ((other i : ℕ) → NoteAt k noted other i → P other i) → P level count → (other i : ℕ) → NoteAt k noted_more other i → P other i
  each_note P old new other i h =
      ⊎_elim
      (λ same.
      let less : i < count + 1 = subst (λ m. i < m) count_here (subst (λ l. i < get_or noted_more l 0) same h.1) in
      subst (λ l. P l i) (sym same) (⊎_elim (λ last. subst (P level) (sym last) new) (λ ne. old level i (used, omega arith)) (cases_eq i count)))
      (λ ne. old other i (h.0, subst (λ m. i < m) (count_other other ne) h.1))
      (cases_eq other level)

  sound_note : Sound with_place n d k noted_more
  sound_note =
      record {
        room = sound_place.room;
        few = s.few;
        low = s.low;
        shallow = s.shallow;
        counted = λ other h.
            ⊎_elim
            (λ same. subst (λ m. m ≤ n) (sym (ap (λ l. get_or noted_more l 0) same ∙ count_here)) (omega (arith, room_for_note)))
            (λ ne. subst (λ m. m ≤ n) (sym (count_other other ne)) (s.counted other h))
            (cases_eq other level);
        within = each_note (λ l i. word_at with_place n l i < n) sound_place.within (rw written-word below);
        placed = each_note (λ l i. place_of with_place n l (word_at with_place n l i) ≡ i) sound_place.placed (ap (place_of with_place n level) written-word ∙ written-place);
      }

  behind-note : drop (n * (3 * d + 2)) with_place ≡ drop (n * (3 * d + 2)) ws
  behind-note =
      let before : (b i : ℕ) → b < 3 * d + 2 → i < n → b * n + i < n * (3 * d + 2) = λ b i few short. cell_within n d b i (n * (3 * d + 2)) (omega arith) few short in
      drop-set-lt (n * (3 * d + 2)) with_value ((3 * level + 3) * n + at) count (before (3 * level + 3) at (omega (arith, s.shallow)) below)
      ∙ drop-set-lt (n * (3 * d + 2)) with_word ((3 * level + 2) * n + count) former (before (3 * level + 2) count (omega (arith, s.shallow)) room_for_note)
      ∙ drop-set-lt (n * (3 * d + 2)) ws ((3 * level + 1) * n + count) at (before (3 * level + 1) count (omega (arith, s.shallow)) room_for_note)

  notes_new : Notes n d level (λ image. set image at former) ws noted with_place noted_more
  notes_new =
      record {
        image =
            image-set with_value n (3 * level + 3) at count (omega arith) ∙ image-set with_word n (3 * level + 2) count former (omega arith)
            ∙ image-set ws n (3 * level + 1) count at (omega arith);
        behind = behind-note;
        undone = λ image.
            ap (λ m. undo with_place n level m image) (count_here ∙ add-one count)
            ∙ ap (undo with_place n level count) (λ i. set image (written-word i) (written-value i))
            ∙ undo-same ws with_place n level count
            (λ i less. through (3 * level + 1) i (omega (arith, room_for_note)) (λ _ e. omega arith) (λ e _. omega arith) (λ e _. omega arith))
            (λ i less. through (3 * level + 2) i (omega (arith, room_for_note)) (λ e _. omega arith) (λ _ e. omega arith) (λ e _. omega arith))
            (set image at former);
        words = λ other i ne short. through (3 * other + 1) i short (λ e _. ne (omega arith)) (λ e _. omega arith) (λ e _. omega arith);
        values = λ other i ne short. through (3 * other + 2) i short (λ e _. omega arith) (λ e _. ne (omega arith)) (λ e _. omega arith);
        depth = length-set noted level (count + 1);
        counts = count_other;
      }

  -- the same at numbers that are known to be the places of the three words
  module _ (x y z : ℕ) (x-is : x ≡ (3 * level + 1) * n + count) (y-is : y ≡ (3 * level + 2) * n + count) (z-is : z ≡ (3 * level + 3) * n + at) where
    word-at : with_word ≡ set ws x at
    word-at = ap (λ j. set ws j at) (sym x-is)

    value-at : with_value ≡ set (set ws x at) y former
    value-at = λ i. set (word-at i) (sym y-is i) former

    place_at : with_place ≡ set (set (set ws x at) y former) z count
    place_at = λ i. set (value-at i) (sym z-is i) count

    pub owed_word : Owed (set ws x at) n d k noted
    owed_word = subst (λ ws'. Owed ws' n d k noted) word-at (owed with_word n d k noted sound_word)

    pub owed_value : Owed (set (set ws x at) y former) n d k noted
    owed_value = subst (λ ws'. Owed ws' n d k noted) value-at (owed with_value n d k noted sound_value)

    pub owed_note : Owed (set (set (set ws x at) y former) z count) n d k noted_more
    owed_note = subst (λ ws'. Owed ws' n d k noted_more) place_at (owed with_place n d k noted_more sound_note)

    pub notes_at : Notes n d level (λ image. set image at former) ws noted (set (set (set ws x at) y former) z count) noted_more
    notes_at = subst (λ ws'. Notes n d level (λ image. set image at former) ws noted ws' noted_more) place_at notes_new

-- where the word is noted already, nothing has to be written
pub notes_old : (ws : List ℕ) (n d level at former : ℕ) (noted : List ℕ) → HasNoted ws n level (get_or noted level 0) at
    → Notes n d level (λ image. set image at former) ws noted ws noted
notes_old ws n d level at former noted has =
    record {
      image = refl;
      behind = refl;
      undone = λ image. sym (undo_noted ws n level (get_or noted level 0) at former image has);
      words = λ other i ne short. refl;
      values = λ other i ne short. refl;
      depth = refl;
      counts = λ other ne. refl;
    }

-- the ghost fields of an inverse log
pub sound_of : (log : InverseLog) → Sound log.words.now log.shape.size log.shape.limit (length log.noted.items) log.noted.items
sound_of log =
    record { room = log.room; few = log.shape.few; low = log.shape.low; shallow = log.shallow; counted = log.counted; within = log.within; placed = log.placed }

-- ---- the inverse log's own note

-- A word that its level has not noted, how many words that has, and where the word, its former value and its place go.
pub record Unnoted (log : InverseLog) (level at count x y z : ℕ) : Type 0 where
  pub used : level < length log.noted.items
  pub below : at < log.shape.size
  pub missing : HasNoted log.words.now log.shape.size level (get_or log.noted.items level 0) at → ⊥
  pub count-is : count ≡ get_or log.noted.items level 0
  pub x-is : x ≡ (3 * level + 1) * log.shape.size + count
  pub y-is : y ≡ (3 * level + 2) * log.shape.size + count
  pub z-is : z ≡ (3 * level + 3) * log.shape.size + at

module _ (log : InverseLog) (level at former count : ℕ) where
  abbrev ws : List ℕ
  ws = log.words.now

  abbrev n : ℕ
  n = log.shape.size

  abbrev d : ℕ
  d = log.shape.limit

  abbrev noted : List ℕ
  noted = log.noted.items

  pub note_room : level < length noted → at < n → (HasNoted ws n level (get_or noted level 0) at → ⊥) → count ≡ get_or noted level 0 → count < n
  note_room used below missing is = rw is (room_for_note ws n d (length noted) noted (sound_of log) level at former used below used missing)

  module _ (x y z : ℕ) (u : Unnoted log level at count x y z) where
    abbrev x-here : x ≡ (3 * level + 1) * n + get_or noted level 0
    x-here = u.x-is ∙ ap (λ c. (3 * level + 1) * n + c) u.count-is

    abbrev y-here : y ≡ (3 * level + 2) * n + get_or noted level 0
    y-here = u.y-is ∙ ap (λ c. (3 * level + 2) * n + c) u.count-is

    pub owed_log_word : Owed (set ws x at) n d (length noted) noted
    owed_log_word = owed_word ws n d (length noted) noted (sound_of log) level at former u.used u.below u.used u.missing x y z x-here y-here u.z-is

    pub owed_log_value : Owed (set (set ws x at) y former) n d (length noted) noted
    owed_log_value = owed_value ws n d (length noted) noted (sound_of log) level at former u.used u.below u.used u.missing x y z x-here y-here u.z-is

    module _ (noted' : List ℕ) (noted'-is : noted' ≡ set noted level (count + 1)) where
      more-is : set noted level (get_or noted level 0 + 1) ≡ noted'
      more-is = ap (λ c. set noted level (c + 1)) (sym u.count-is) ∙ sym noted'-is

      depth-is : length noted ≡ length noted'
      depth-is = sym (ap length noted'-is ∙ length-set noted level (count + 1))

      pub owed_log_note : Owed (set (set (set ws x at) y former) z count) n d (length noted') noted'
      owed_log_note =
          subst (λ c. Owed (set (set (set ws x at) y former) z c) n d (length noted') noted') (sym u.count-is)
          (subst (λ k. Owed (set (set (set ws x at) y former) z (get_or noted level 0)) n d k noted') depth-is
          (subst (λ xs. Owed (set (set (set ws x at) y former) z (get_or noted level 0)) n d (length noted) xs) more-is
          (owed_note ws n d (length noted) noted (sound_of log) level at former u.used u.below u.used u.missing x y z x-here y-here u.z-is)))

      pub log-notes : Notes n d level (λ image. set image at former) ws noted (set (set (set ws x at) y former) z count) noted'
      log-notes =
          subst (λ c. Notes n d level (λ image. set image at former) ws noted (set (set (set ws x at) y former) z c) noted') (sym u.count-is)
          (subst (λ xs. Notes n d level (λ image. set image at former) ws noted (set (set (set ws x at) y former) z (get_or noted level 0)) xs) more-is
          (notes_at ws n d (length noted) noted (sound_of log) level at former u.used u.below u.used u.missing x y z x-here y-here u.z-is))

-- an element written through the slice
pub refilled : (xs zs : List ℕ) (i v : ℕ) → zs ≡ xs → refill (length xs) xs (set zs i v) ≡ set xs i v
refilled xs zs i v same =
    ap (λ ys. refill (length xs) xs (set ys i v)) same ∙ take_at (set xs i v) (drop (length (set xs i v)) xs) (length xs) (length-set xs i v)
