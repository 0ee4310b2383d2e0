-- Words of free pixels: what a write to the free pixels of a word does, and walks from word to
-- word.
use Rattle.std.proofs.Common.{◌≡◌, ℕ, ◌+◌, ◌-◌, ◌*◌, ◌/◌, ◌%◌, ◌^◌, ◌<◌, ◌≤◌, inl, inr, Bool, true, false, eqb, cond, nat_lt, min, List, length, slice_index, set, replicate, bit_and, Option, Some, None, w64, refl, sym, ap, ◌∙◌, arith}
use Rattle.std.specs.Int.{bit_at, bit_not, trailing_zeros}
use Rattle.std.specs.Option.{option_or}
use Rattle.std.proofs.lemmas.List.{get_or-set_same, get_or-set_other, get_or-replicate, get_or_past, length-set, length-replicate}
use Rattle.std.proofs.lemmas.Bool.{cases_Bool, cases_lt, cases_eq, false≢true, lt-ltb, le-ltb}
use Rattle.std.proofs.lemmas.Nat.{shr-shr, shr_le, one_shl}
use Rattle.std.proofs.lemmas.Nat.Bits.{bit_at-lt, bit_at-zero, bit_at_ones, bit_at_ones_above, bit_at_mask_below, bit_at_mask_inside, ones_shl, ones_shr, bit_at_and, bit_at_not, bit_at_above, bit_at-trailing_zeros}
use Rattle.wf_def.specs.declared.color.Color.{Color}
use Rattle.wf_paint.specs.Pixmap.{pixel_at}
use Rattle.wf_paint.specs.Cells.{IsCells, HasFreeBit, IsPixelWritten, ArePainted, IsRangePainted, is_free, painted_in}

-- ---- free and painted pixels

pub is_free-set : (free : List ℕ) (i : ℕ) → bit_at (slice_index free (i / 64)) (i % 64) ≡ 1 → is_free free i ≡ true
unfolding is_free
is_free-set free i is = ap (λ (n : ℕ). eqb n 1) is

pub is_free-clear : (free : List ℕ) (i : ℕ) → bit_at (slice_index free (i / 64)) (i % 64) ≡ 0 → is_free free i ≡ false
unfolding is_free
is_free-clear free i is = ap (λ (n : ℕ). eqb n 1) is

pub is_free-same : (old new : List ℕ) (i : ℕ) → bit_at (slice_index new (i / 64)) (i % 64) ≡ bit_at (slice_index old (i / 64)) (i % 64) → is_free new i ≡ is_free old i
unfolding is_free
is_free-same old new i same = ap (λ (n : ℕ). eqb n 1) same

module _ (free bytes : List ℕ) (i : ℕ) where
  pub painted_in-free : is_free free i ≡ true → painted_in free bytes i ≡ None
  unfolding painted_in
  painted_in-free is = rw is refl

  pub painted_in-painted : is_free free i ≡ false → painted_in free bytes i ≡ Some (pixel_at bytes i)
  unfolding painted_in
  painted_in-painted painted = rw painted refl

pub painted_in-same : (old_free old_bytes free bytes : List ℕ) (i : ℕ) → is_free free i ≡ is_free old_free i → pixel_at bytes i ≡ pixel_at old_bytes i →
    painted_in free bytes i ≡ painted_in old_free old_bytes i
unfolding painted_in
painted_in-same old_free old_bytes free bytes i same pixel = rw (same, pixel) refl

-- a pixel with a colour isn't free
pub is_free-by_color : (free bytes : List ℕ) (i : ℕ) (color : Color) → painted_in free bytes i ≡ Some color → is_free free i ≡ false
unfolding painted_in
is_free-by_color free bytes i color painted =
    let P : Bool → Type 0 = λ b. cond b None (Some (pixel_at bytes i)) ≡ Some color → b ≡ false in
    let by_cases : (b : Bool) → P b = λ b. elim b as P [ true ↦ λ none. cc | false ↦ λ some. refl ] in
    by_cases (is_free free i) painted

-- ---- the pixels of a word whose bits are set

module _ (first bits : ℕ) (color : Color) (old : List ℕ) where
  pub none_written : ArePainted 0 first bits color old old
  none_written = record { size = refl; changed = λ k before. absurd (omega arith); others = λ i apart. refl }

  -- where no bit from `here` on is set, the rest is written too
  pub written_to_end : (here : ℕ) (bytes : List ℕ) → bits < 2 ^ 64 → bits / 2 ^ here ≡ 0 → ArePainted here first bits color old bytes → ArePainted 64 first bits color old bytes
  written_to_end here bytes fits none written =
      let clear : (k : ℕ) → here ≤ k → bit_at bits k ≡ 0 = λ k from.
      let index : here + (k - here) ≡ k = omega arith in
      rw index at (ap (λ (n : ℕ). n % 2) (sym (shr-shr bits here (k - here))) ∙ ap (λ (n : ℕ). bit_at n (k - here)) none ∙ bit_at-zero (k - here)) in
      record {
        size = written.size;
        changed = λ k below is. elim (cases_lt k here) [
          | inl earlier ↦ written.changed k earlier is
          | inr from ↦ absurd (omega (arith, clear k from))
        ];
        others = λ i apart. written.others i (λ k before is. elim (cases_lt k 64) [
          | inl below ↦ apart k below is
          | inr above ↦ absurd (omega (arith, bit_at_above bits 64 k fits above))
        ]);
      }

  -- the lowest bit from `here` on that is set
  pub lowest_set : (here : ℕ) → bits < 2 ^ 64 → 0 < bits / 2 ^ here →
      (here + trailing_zeros w64 (bits / 2 ^ here) < 64) × (bit_at bits (here + trailing_zeros w64 (bits / 2 ^ here)) ≡ 1)
      × ((k : ℕ) → here ≤ k → k < here + trailing_zeros w64 (bits / 2 ^ here) → bit_at bits k ≡ 0)
  lowest_set here fits some =
      let rest : ℕ = bits / 2 ^ here in
      let zeros : ℕ = trailing_zeros w64 rest in
      let found = bit_at-trailing_zeros w64 rest some (omega (arith, fits, shr_le bits here)) in
      let moved : (k : ℕ) → bit_at rest k ≡ bit_at bits (here + k) = λ k. ap (λ (n : ℕ). n % 2) (shr-shr bits here k) in
      let is : bit_at bits (here + zeros) ≡ 1 = sym (moved zeros) ∙ found.1 in (
        elim (cases_lt (here + zeros) 64) [
          | inl below ↦ below
          | inr above ↦ absurd (omega (arith, is, bit_at_above bits 64 (here + zeros) fits above))
        ],
        is,
        λ k from before.
            let index : here + (k - here) ≡ k = omega arith in
            rw index at (sym (moved (k - here)) ∙ found.2 (k - here) (omega arith)),
      )

  pub one_written : (here set : ℕ) (bytes new : List ℕ) → here ≤ set → bit_at bits set ≡ 1 → ((k : ℕ) → here ≤ k → k < set → bit_at bits k ≡ 0) →
      ArePainted here first bits color old bytes → IsPixelWritten (first + set) color bytes new → ArePainted (set + 1) first bits color old new
  one_written here set bytes new order is clear written one = record {
    size = one.size ∙ written.size;
    changed = λ k before this. elim (cases_eq k set) [
      | inl same ↦ rw same one.changed
      | inr apart ↦ elim (cases_lt k here) [
        | inl earlier ↦ one.others (first + k) (omega arith) ∙ written.changed k earlier this
        | inr from ↦ absurd (omega (arith, clear k from (omega arith)))
      ]
    ];
    others = λ i apart. one.others i (apart set (omega arith) is) ∙ written.others i (λ k before this. apart k (omega arith) this);
  }

-- ---- a word

least-zero : (a b : ℕ) → b ≡ 0 → min a b ≡ 0
least-zero a b none = omega arith

least-zero_first : (a b : ℕ) → a ≡ 0 → min a b ≡ 0
least-zero_first a b none = omega arith

least-one : (a b : ℕ) → a < 2 → b ≡ 1 → min a b ≡ a
least-one a b small one = omega arith

module _ (left mask k : ℕ) where
  pub masked_out : bit_at mask k ≡ 0 → bit_at (bit_and left mask) k ≡ 0
  masked_out out = bit_at_and left mask k ∙ least-zero (bit_at left k) (bit_at mask k) out

  pub masked_in : bit_at mask k ≡ 1 → bit_at (bit_and left mask) k ≡ bit_at left k
  masked_in is = bit_at_and left mask k ∙ least-one (bit_at left k) (bit_at mask k) (bit_at-lt left k) is

  module _ (fits : mask < 2 ^ 64) (below : k < 64) where
    pub cleared_in : bit_at mask k ≡ 1 → bit_at (bit_and left (bit_not w64 mask)) k ≡ 0
    cleared_in is = bit_at_and left (bit_not w64 mask) k
        ∙ least-zero (bit_at left k) (bit_at (bit_not w64 mask) k) (bit_at_not w64 mask k fits below ∙ ap (λ (n : ℕ). 1 - n) is)

    pub cleared_out : bit_at mask k ≡ 0 → bit_at (bit_and left (bit_not w64 mask)) k ≡ bit_at left k
    cleared_out out = bit_at_and left (bit_not w64 mask) k
        ∙ least-one (bit_at left k) (bit_at (bit_not w64 mask) k) (bit_at-lt left k) (bit_at_not w64 mask k fits below ∙ ap (λ (n : ℕ). 1 - n) out)

-- the bits of a word from `from` on and before `to`
pub record IsMask (from to mask : ℕ) : Type 0 where
  pub below : (k : ℕ) → k < from → bit_at mask k ≡ 0
  pub within : (k : ℕ) → from ≤ k → k < to → bit_at mask k ≡ 1
  pub above : (k : ℕ) → to ≤ k → bit_at mask k ≡ 0

-- all bits from `from` on, and of these all before `to`
pub mask_of : (from to : ℕ) → from < 64 → to ≤ 64 → IsMask from to (bit_and ((2 ^ 64 - 1) * 2 ^ from % 2 ^ 64) ((2 ^ 64 - 1) / 2 ^ (64 - to)))
mask_of from to first last =
    let up : (2 ^ 64 - 1) * 2 ^ from % 2 ^ 64 ≡ 2 ^ 64 - 2 ^ from = ones_shl 64 from (omega arith) in
    let index : 64 - (64 - to) ≡ to = omega arith in
    let down : (2 ^ 64 - 1) / 2 ^ (64 - to) ≡ 2 ^ to - 1 = ones_shr 64 (64 - to) (omega arith) ∙ ap (λ (n : ℕ). 2 ^ n - 1) index in
    let upper : ℕ = (2 ^ 64 - 1) * 2 ^ from % 2 ^ 64 in
    let lower : ℕ = (2 ^ 64 - 1) / 2 ^ (64 - to) in
    record {
      below = λ k before. bit_at_and upper lower k
          ∙ least-zero_first (bit_at upper k) (bit_at lower k) (ap (λ (n : ℕ). bit_at n k) up ∙ bit_at_mask_below from 64 k before);
      within = λ k later before. bit_at_and upper lower k
          ∙ least-one (bit_at upper k) (bit_at lower k) (bit_at-lt upper k) (ap (λ (n : ℕ). bit_at n k) down ∙ bit_at_ones to k before)
          ∙ ap (λ (n : ℕ). bit_at n k) up ∙ bit_at_mask_inside from 64 k later (omega arith);
      above = λ k after. bit_at_and upper lower k
          ∙ least-zero (bit_at upper k) (bit_at lower k) (ap (λ (n : ℕ). bit_at n k) down ∙ bit_at_ones_above to k after);
    }

-- words of so many free pixels
pub free_below : (area : ℕ) (free : List ℕ) → length free ≡ area / 64 + 1 → ((w : ℕ) → w < area / 64 → slice_index free w ≡ 2 ^ 64 - 1) →
    slice_index free (area / 64) ≡ 2 ^ (area % 64) - 1 → (i : ℕ) → is_free free i ≡ nat_lt i area
free_below area free count whole last i =
    let word : ℕ = i / 64 in
    let bit : ℕ = i % 64 in
    let small : bit < 64 = omega arith in
    elim (cases_lt word (area / 64)) [
      | inl earlier ↦
          let inside : i < area = omega arith in
          is_free-set free i (ap (λ (n : ℕ). bit_at n bit) (whole word earlier) ∙ bit_at_ones 64 bit small) ∙ sym (lt-ltb i area inside)
      | inr from ↦ elim (cases_eq word (area / 64)) [
        | inl same ↦
            let is : slice_index free word ≡ 2 ^ (area % 64) - 1 = ap (slice_index free) same ∙ last in
            elim (cases_lt bit (area % 64)) [
              | inl below ↦
                  let inside : i < area = omega arith in
                  is_free-set free i (ap (λ (n : ℕ). bit_at n bit) is ∙ bit_at_ones (area % 64) bit below) ∙ sym (lt-ltb i area inside)
              | inr above ↦
                  let outside : area ≤ i = omega arith in
                  is_free-clear free i (ap (λ (n : ℕ). bit_at n bit) is ∙ bit_at_ones_above (area % 64) bit above) ∙ sym (le-ltb i area outside)
            ]
        | inr apart ↦
            let outside : area ≤ i = omega arith in
            is_free-clear free i (ap (λ (n : ℕ). bit_at n bit) (get_or_past free word 0 (omega arith)) ∙ bit_at-zero bit) ∙ sym (le-ltb i area outside)
      ]
    ]

-- they are made of words of ones, the last one cut
pub words_of : (area : ℕ) (words : List ℕ) → words ≡ replicate (area / 64 + 1) (2 ^ 64 - 1) →
    (i : ℕ) → is_free (set words (area / 64) (1 * 2 ^ (area % 64) % 2 ^ 64 - 1)) i ≡ nat_lt i area
words_of area words are =
    let last : ℕ = area / 64 in
    let cut : ℕ = 1 * 2 ^ (area % 64) % 2 ^ 64 - 1 in
    let count : length words ≡ last + 1 = ap (λ (l : List ℕ). length l) are ∙ length-replicate (last + 1) (2 ^ 64 - 1) in
    let shifted : cut ≡ 2 ^ (area % 64) - 1 = ap (λ (n : ℕ). n - 1) (one_shl (area % 64) 64 (omega arith)) in
    free_below area (set words last cut) (length-set words last cut ∙ count)
    (λ w earlier. get_or-set_other words last w cut 0 (omega arith) ∙ ap (λ (l : List ℕ). slice_index l w) are ∙ get_or-replicate (last + 1) w (2 ^ 64 - 1) 0 (omega arith))
    (get_or-set_same words last cut 0 (omega arith) ∙ shifted)

pub some_or : (o : Option Color) (color : Color) → (c : Color) × (option_or o (Some color) ≡ Some c)
some_or None color = (color, refl)
some_or (Some c) color = (c, refl)

-- a range without a free pixel is painted as it stands
pub painted_already : (start end : ℕ) (color : Color) (free bytes : List ℕ) → ((i : ℕ) → start ≤ i → i < end → is_free free i ≡ false) →
    IsRangePainted start end color free bytes free bytes
painted_already start end color free bytes painted = record {
  free_size = refl;
  bytes_size = refl;
  painted = λ i from before.
      let was : painted_in free bytes i ≡ Some (pixel_at bytes i) = painted_in-painted free bytes i (painted i from before) in
      was ∙ ap (λ (o : Option Color). option_or o (Some color)) (sym was);
  before = λ i earlier. refl;
  after = λ i later. refl;
  unpainted = λ i is. refl;
}

module _ (free bytes : List ℕ) (from to mask : ℕ) (color : Color) (last : to ≤ 64 * (from / 64) + 64) (is : IsMask (from % 64) (to - 64 * (from / 64)) mask) where
  abbrev word : ℕ
  word = from / 64

  abbrev left : ℕ
  left = slice_index free word

  in_mask : (i : ℕ) → i / 64 ≡ word → from ≤ i → i < to → bit_at mask (i % 64) ≡ 1
  in_mask i same later earlier = is.within (i % 64) (omega arith) (omega arith)

  out_of_mask : (i : ℕ) → i / 64 ≡ word → i < from → bit_at mask (i % 64) ≡ 0
  out_of_mask i same earlier = is.below (i % 64) (omega arith)

  past_mask : (i : ℕ) → i / 64 ≡ word → to ≤ i → bit_at mask (i % 64) ≡ 0
  past_mask i same later = is.above (i % 64) (omega arith)

  in_word : (i : ℕ) → from ≤ i → i < to → i / 64 ≡ word
  in_word i later earlier = omega arith

  -- none of the mask's pixels is free: nothing is to be painted
  pub word_painted : bit_and left mask ≡ 0 → IsRangePainted from to color free bytes free bytes
  word_painted none = painted_already from to color free bytes (λ i later earlier.
      let same : i / 64 ≡ word = in_word i later earlier in
      let clear : bit_at left (i % 64) ≡ 0 =
      sym (masked_in left mask (i % 64) (in_mask i same later earlier)) ∙ ap (λ (n : ℕ). bit_at n (i % 64)) none ∙ bit_at-zero (i % 64) in
      is_free-clear free i (ap (λ (w : ℕ). bit_at (slice_index free w) (i % 64)) same ∙ clear))

  module _ (new : List ℕ) (within : word < length free) (fits : mask < 2 ^ 64) (written : ArePainted 64 (64 * word) (bit_and left mask) color bytes new) where
    abbrev cleared : List ℕ
    cleared = set free word (bit_and left (bit_not w64 mask))

    -- a pixel outside the mask is as it was
    kept : (i : ℕ) → (i / 64 ≡ word → bit_at mask (i % 64) ≡ 0) → painted_in cleared new i ≡ painted_in free bytes i
    kept i out =
        let pixel : pixel_at new i ≡ pixel_at bytes i = written.others i (λ k below this at.
        let word_of : i / 64 ≡ word = omega arith in
        let index : i % 64 ≡ k = omega arith in
        let clear : bit_at mask k ≡ 0 = rw index at (out word_of) in
        omega (arith, this, masked_out left mask k clear)) in
        let same : is_free cleared i ≡ is_free free i = elim (cases_eq (i / 64) word) [
          | inl here ↦
              let now : slice_index cleared (i / 64) ≡ bit_and left (bit_not w64 mask) = rw here (get_or-set_same free word (bit_and left (bit_not w64 mask)) 0 within) in
              let was : slice_index free (i / 64) ≡ left = ap (slice_index free) here in
              is_free-same free cleared i (ap (λ (n : ℕ). bit_at n (i % 64)) now ∙ cleared_out left mask (i % 64) fits (omega arith) (out here) ∙ ap (λ (n : ℕ). bit_at n (i % 64)) (sym was))
          | inr apart ↦ is_free-same free cleared i (ap (λ (n : ℕ). bit_at n (i % 64)) (get_or-set_other free word (i / 64) (bit_and left (bit_not w64 mask)) 0 apart))
        ] in
        painted_in-same free bytes cleared new i same pixel

    -- a pixel of the mask is painted: in the colour, if it was free
    now_painted : (i : ℕ) → from ≤ i → i < to → painted_in cleared new i ≡ option_or (painted_in free bytes i) (Some color)
    now_painted i later earlier =
        let same : i / 64 ≡ word = in_word i later earlier in
        let bit : bit_at mask (i % 64) ≡ 1 = in_mask i same later earlier in
        let index : 64 * word + i % 64 ≡ i = omega arith in
        let now : slice_index cleared (i / 64) ≡ bit_and left (bit_not w64 mask) = rw same (get_or-set_same free word (bit_and left (bit_not w64 mask)) 0 within) in
        let clear : is_free cleared i ≡ false =
        is_free-clear cleared i (ap (λ (n : ℕ). bit_at n (i % 64)) now ∙ cleared_in left mask (i % 64) fits (omega arith) bit) in
        let before : bit_at (slice_index free (i / 64)) (i % 64) ≡ bit_at left (i % 64) = ap (λ (w : ℕ). bit_at (slice_index free w) (i % 64)) same in
        painted_in-painted cleared new i clear ∙ elim (cases_eq (bit_at left (i % 64)) 1) [
          | inl was ↦
              let colored : pixel_at new i ≡ color = rw index at (written.changed (i % 64) (omega arith) (masked_in left mask (i % 64) bit ∙ was)) in
              ap (λ (p : Color). Some p) colored ∙ ap (λ (o : Option Color). option_or o (Some color)) (sym (painted_in-free free bytes i (is_free-set free i (before ∙ was))))
          | inr not_free ↦
              let zero_bit : bit_at left (i % 64) ≡ 0 = omega (arith, bit_at-lt left (i % 64)) in
              let pixel : pixel_at new i ≡ pixel_at bytes i = written.others i (λ k below this at.
              let this_index : i % 64 ≡ k = omega arith in
              let none : bit_at left k ≡ 0 = rw this_index at zero_bit in
              let in_it : bit_at mask k ≡ 1 = rw this_index at bit in
              omega (arith, this, masked_in left mask k in_it)) in
              ap (λ (p : Color). Some p) pixel
              ∙ ap (λ (o : Option Color). option_or o (Some color)) (sym (painted_in-painted free bytes i (is_free-clear free i (before ∙ zero_bit))))
        ]

    -- a pixel that is still free has its bytes
    still_free : (i : ℕ) → is_free cleared i ≡ true → pixel_at new i ≡ pixel_at bytes i
    still_free i is = written.others i (λ k below this at.
        let word_of : i / 64 ≡ word = omega arith in
        let index : i % 64 ≡ k = omega arith in
        let in_it : bit_at mask k ≡ 1 = omega (arith, this, bit_at_and left mask k, bit_at-lt mask k) in
        let bit : bit_at mask (i % 64) ≡ 1 = rw index in_it in
        let now : slice_index cleared (i / 64) ≡ bit_and left (bit_not w64 mask) = rw word_of (get_or-set_same free word (bit_and left (bit_not w64 mask)) 0 within) in
        let clear : is_free cleared i ≡ false =
        is_free-clear cleared i (ap (λ (n : ℕ). bit_at n (i % 64)) now ∙ cleared_in left mask (i % 64) fits (omega arith) bit) in
        false≢true (sym clear ∙ is))

    pub word_covered : IsRangePainted from to color free bytes cleared new
    word_covered = record {
      free_size = length-set free word (bit_and left (bit_not w64 mask));
      bytes_size = written.size;
      painted = now_painted;
      before = λ i earlier. kept i (λ same. out_of_mask i same earlier);
      after = λ i later. kept i (λ same. past_mask i same later);
      unpainted = still_free;
    }

-- a pixel whose bit is set has three bytes
pub word_has_bytes : (free bytes : List ℕ) (word k : ℕ) → IsCells free bytes → slice_index free word < 2 ^ 64 → bit_at (slice_index free word) k ≡ 1 → 3 * (64 * word + k) + 2 < length bytes
word_has_bytes free bytes word k cells fits set =
    let below : k < 64 = elim (cases_lt k 64) [ inl below ↦ below | inr above ↦ absurd (omega (arith, set, bit_at_above (slice_index free word) 64 k fits above)) ] in
    let word_of : (64 * word + k) / 64 ≡ word = omega arith in
    let index : (64 * word + k) % 64 ≡ k = omega arith in
    cells.within (64 * word + k) (is_free-set free (64 * word + k) (ap (λ (w : ℕ). bit_at (slice_index free w) ((64 * word + k) % 64)) word_of ∙ ap (bit_at (slice_index free word)) index ∙ set))

-- and so have those among them that are to be written
pub set_have_bytes : (free bytes : List ℕ) (word mask k : ℕ) → IsCells free bytes → slice_index free word < 2 ^ 64 → bit_at (bit_and (slice_index free word) mask) k ≡ 1 → 3 * (64 * word + k) + 2 < length bytes
set_have_bytes free bytes word mask k cells fits both =
    let left : ℕ = slice_index free word in
    let set : bit_at left k ≡ 1 = omega (arith, both, bit_at_and left mask k, bit_at-lt left k) in
    word_has_bytes free bytes word k cells fits set

-- ---- from word to word

module _ (start end : ℕ) (color : Color) (old_free old_bytes free bytes : List ℕ) (range : IsRangePainted start end color old_free old_bytes free bytes) where
  -- what was painted stays painted
  pub range_keeps : (i : ℕ) → is_free old_free i ≡ false → is_free free i ≡ false
  range_keeps i painted =
      let was : painted_in old_free old_bytes i ≡ Some (pixel_at old_bytes i) = painted_in-painted old_free old_bytes i painted in
      elim (cases_lt i start) [
        | inl earlier ↦ is_free-by_color free bytes i (pixel_at old_bytes i) (range.before i earlier ∙ was)
        | inr from ↦ elim (cases_lt i end) [
          | inl before ↦
              let some : (c : Color) × (option_or (painted_in old_free old_bytes i) (Some color) ≡ Some c) = some_or (painted_in old_free old_bytes i) color in
              is_free-by_color free bytes i some.0 (range.painted i from before ∙ some.1)
          | inr later ↦ is_free-by_color free bytes i (pixel_at old_bytes i) (range.after i later ∙ was)
        ]
      ]

  -- what is free was free
  pub range_was_free : (i : ℕ) → is_free free i ≡ true → is_free old_free i ≡ true
  range_was_free i is = elim (cases_Bool (is_free old_free i)) [
    | inl was ↦ was
    | inr painted ↦ absurd (false≢true (sym (range_keeps i painted) ∙ is))
  ]

  pub cells_kept : IsCells old_free old_bytes → IsCells free bytes
  cells_kept cells = record {
    most = omega (arith, cells.most, range.free_size);
    within = λ i is. omega (arith, cells.within i (range_was_free i is), range.bytes_size);
  }

module _ (start : ℕ) (color : Color) (old_free old_bytes : List ℕ) where
  pub range_begins : IsRangePainted start start color old_free old_bytes old_free old_bytes
  range_begins = painted_already start start color old_free old_bytes (λ i from before. absurd (omega arith))

  pub range_further : (here next : ℕ) (free bytes new_free new_bytes : List ℕ) → start ≤ here → here ≤ next →
      IsRangePainted start here color old_free old_bytes free bytes → IsRangePainted here next color free bytes new_free new_bytes →
      IsRangePainted start next color old_free old_bytes new_free new_bytes
  range_further here next free bytes new_free new_bytes first second earlier_range range = record {
    free_size = range.free_size ∙ earlier_range.free_size;
    bytes_size = range.bytes_size ∙ earlier_range.bytes_size;
    painted = λ i later earlier. elim (cases_lt i here) [
      | inl passed ↦ range.before i passed ∙ earlier_range.painted i later passed
      | inr reached ↦ range.painted i reached earlier ∙ ap (λ (o : Option Color). option_or o (Some color)) (earlier_range.after i reached)
    ];
    before = λ i earlier. range.before i (omega arith) ∙ earlier_range.before i earlier;
    after = λ i later. range.after i later ∙ earlier_range.after i (omega arith);
    unpainted = λ i is. range.unpainted i is
        ∙ earlier_range.unpainted i (range_was_free here next color free bytes new_free new_bytes range i is);
  }

-- ---- the first word with a free pixel

-- a word without a set bit has no free pixel
pub passed_word : (free : List ℕ) (word : ℕ) → slice_index free word ≡ 0 → ((i : ℕ) → i < 64 * word → is_free free i ≡ false) → (i : ℕ) → i < 64 * (word + 1) → is_free free i ≡ false
passed_word free word none passed i before = elim (cases_lt i (64 * word)) [
  | inl earlier ↦ passed i earlier
  | inr from ↦
      let same : i / 64 ≡ word = omega arith in
      is_free-clear free i (ap (λ (w : ℕ). bit_at (slice_index free w) (i % 64)) same ∙ ap (λ (n : ℕ). bit_at n (i % 64)) none ∙ bit_at-zero (i % 64))
]

pub word_free : (free : List ℕ) (word : ℕ) → 0 < slice_index free word → slice_index free word < 2 ^ 64 → HasFreeBit free word
word_free free word some fits =
    let found = bit_at-trailing_zeros w64 (slice_index free word) some fits in
    let bit : ℕ = trailing_zeros w64 (slice_index free word) in
    let below : bit < 64 = found.0 in
    let word_of : (64 * word + bit) / 64 ≡ word = omega arith in
    let index : (64 * word + bit) % 64 ≡ bit = omega arith in
    record {
      bit = bit;
      below = below;
      unpainted = is_free-set free (64 * word + bit) (ap (λ (w : ℕ). bit_at (slice_index free w) ((64 * word + bit) % 64)) word_of ∙ ap (bit_at (slice_index free word)) index ∙ found.1);
    }
