-- Laws of fields, for any width, by a field's last column: a field is well formed and has the value n just where it is `spell` of n, and
-- reading from the left with the value so far comes to what the digits and their places say.
-- Assumes nothing.
use Prim.Native.Nat.{ℕ, zero, suc, ◌+◌, ◌-◌, ◌*◌, ◌/◌, ◌%◌, ◌^◌, ◌≤◌, ◌<◌}
use mathlib.Core.Path.{◌≡◌, refl, sym, ap, ap₂, ◌∙◌}
use mathlib.Core.Logic.{◌↔◌}
use mathlib.Core.Bool.{Bool, true, false, not, ◌&&◌, ◌||◌, and-true, and-false, or-true}
use mathlib.Core.List.{List, [], ◌∷◌, ◌++◌, append_assoc, append-nil, reverse, reverse-cons, foldl-append}
use native.Mathlib.Omega.{arith}
use native.Mathlib.Nat.{sub-zero, zero-mul, zero-add, pow-suc, mul_assoc, one-le-mul, one-le-pow, pow-le-pow_right}
use lib.Dec.{eqb, leb}
use lib.ListN.{length, take, drop, replicate, length-append, length-replicate, length-reverse, take-append-drop}
use borrow.Author.Tests.{le-leb, lt-leb, leb-true, leb-false, eqb-true, eqb-false}
use Rattle.std.specs.Prelude.{Some, None, if◌then◌else◌}
use Rattle.fields.specs.declared.Scan.{Scan}
use Rattle.fields.specs.declared.Scan.TheVariants.{Blanks}
use Rattle.fields.specs.Field.{blank, is_digit, all_digits, numeral, well_formed, digit, value, widest, field_of, digits_of, spell}
use Rattle.fields.specs.Scan.{scan_byte, scanned, so_far, finish, are_blanks, reached, RunningValue}
use Rattle.base.proofs.Lists.{all_last, from_last}
use Rattle.base.proofs.Ranges.{inside, range_facts}
use Rattle.base.proofs.Bools.{and_left, and_right, either, clash, agree, by_cases}

-- ## Spelling, from the right

length_digits : (most n : ℕ) → length (digits_of most n) ≤ most
length_digits zero n = omega arith
length_digits (suc most) n = by (leb 10 n) (length_digits most (n / 10))
  where
    by : (b : Bool) → length (digits_of most (n / 10)) ≤ most →
        length ((48 + n % 10) ∷ (if b then digits_of most (n / 10) else [])) ≤ suc most
    by true h = omega arith
    by false h = omega arith

-- a spelled number fills its field
pub length_spell : (width n : ℕ) → length (spell width n) ≡ width
unfolding spell
length_spell width n =
    let digits = reverse (digits_of width n) in
    omega (
      arith,
      length-append (replicate (width - length digits) blank) digits,
      length-replicate (width - length digits) blank,
      length-reverse (digits_of width n),
      length_digits width n,
    )

framed : ℕ → List ℕ → List ℕ
framed width xs = replicate (width - length (reverse xs)) blank ++ reverse xs

framed_step : (width d : ℕ) (xs : List ℕ) → framed (suc width) (d ∷ xs) ≡ framed width xs ++ (d ∷ [])
unfolding framed
framed_step width d xs =
    let as_many : suc width - length (reverse xs ++ (d ∷ [])) ≡ width - length (reverse xs) =
    omega (arith, length-append (reverse xs) (d ∷ [])) in
    ap (λ (l : List ℕ). replicate (suc width - length l) blank ++ l) (reverse-cons d xs)
    ∙ ap (λ (k : ℕ). replicate k blank ++ (reverse xs ++ (d ∷ []))) as_many
    ∙ sym (append_assoc (replicate (width - length (reverse xs)) blank) (reverse xs) (d ∷ []))

-- the last column is the last digit, and before it the rest of the number is spelled, or there are blanks
pub spell_step :
    (width n : ℕ) →
    spell (suc width) n ≡ (if leb 10 n then spell width (n / 10) else replicate width blank) ++ ((48 + n % 10) ∷ [])
unfolding spell framed
spell_step width n = by (leb 10 n)
  where
    by :
        (b : Bool) →
        framed (suc width) ((48 + n % 10) ∷ (if b then digits_of width (n / 10) else [])) ≡
        (if b then spell width (n / 10) else replicate width blank) ++ ((48 + n % 10) ∷ [])
    by true = framed_step width (48 + n % 10) (digits_of width (n / 10))
    by false =
        framed_step width (48 + n % 10) []
        ∙ ap (λ (k : ℕ). (replicate k blank ++ []) ++ ((48 + n % 10) ∷ [])) (sub-zero width)
        ∙ ap (λ (l : List ℕ). l ++ ((48 + n % 10) ∷ [])) (append-nil (replicate width blank))

pub spell_long : (width n : ℕ) → 10 ≤ n → spell (suc width) n ≡ spell width (n / 10) ++ ((48 + n % 10) ∷ [])
spell_long width n h = rw (le-leb 10 n h) at (spell_step width n)

pub spell_short : (width n : ℕ) → n < 10 → spell (suc width) n ≡ replicate width blank ++ ((48 + n) ∷ [])
spell_short width n h =
    let last : 48 + n % 10 ≡ 48 + n = omega arith in
    (rw (lt-leb 10 n h) at (spell_step width n))
    ∙ ap (λ (k : ℕ). replicate width blank ++ (k ∷ [])) last

-- ## One column more

pub digit_is : (d : ℕ) → is_digit d ≡ true → (48 ≤ d) × (d ≤ 57)
digit_is d e = range_facts 48 d 57 e

length_last : (xs : List ℕ) (d : ℕ) → length (xs ++ d ∷ []) ≡ suc (length xs)
length_last xs d = omega (arith, length-append xs (d ∷ []))

-- the digits before it stand one place higher
value_last : (xs : List ℕ) (d : ℕ) → value (xs ++ d ∷ []) ≡ value xs * 10 + digit d
value_last [] d = omega arith
value_last (b ∷ bs) d =
    let higher : digit b * 10 ^ suc (length bs) ≡ digit b * 10 ^ length bs * 10 =
    ap (λ (k : ℕ). digit b * k) (pow-suc 10 (length bs)) ∙ sym (mul_assoc (digit b) (10 ^ length bs) 10) in
    rw (length_last bs d) (omega (arith, higher, value_last bs d))

value_blank : (b : ℕ) (bs : List ℕ) → eqb b blank ≡ true → value (b ∷ bs) ≡ value bs
value_blank b bs q =
    rw (eqb-true b 32 q) (ap (λ (k : ℕ). k + value bs) (zero-mul (10 ^ length bs)) ∙ zero-add (value bs))

value_blanks : (xs : List ℕ) → are_blanks xs ≡ true → value xs ≡ 0
value_blanks [] p = refl
value_blanks (b ∷ bs) p =
    value_blank b bs (and_left (eqb b blank) (are_blanks bs) p) ∙ value_blanks bs (and_right (eqb b blank) (are_blanks bs) p)

-- what starts with 1 to 9 is above 0
above_zero : (b : ℕ) (bs : List ℕ) → is_digit b ≡ true → eqb b 48 ≡ false → 1 ≤ value (b ∷ bs)
above_zero b bs e q =
    let range = digit_is b e in
    let apart = eqb-false b 48 q in
    let first : 1 ≤ (b - 48) * 10 ^ length bs = one-le-mul (omega arith) (one-le-pow (length bs) 10 (omega arith)) in
    rw e (omega arith)

-- a number is above 0 just where it starts with 1 to 9
positive : (b : ℕ) (bs : List ℕ) → numeral (b ∷ bs) && leb 1 (value (b ∷ bs)) ≡ is_digit b && (not (eqb b 48) && all_digits bs)
positive b [] =
    either (is_digit b)
    (λ e.
    either (eqb b 48)
    (λ q. let at_zero = eqb-true b 48 q in rw (e, q) (lt-leb 1 ((b - 48) * 1 + 0) (omega arith)))
    (λ q. rw (e, q) (le-leb 1 ((b - 48) * 1 + 0) (rw e at (above_zero b [] e q)))))
    (λ e. rw e)
positive b (c ∷ cs) =
    either (is_digit b)
    (λ e.
    either (eqb b 48)
    (λ q. rw (e, q))
    (λ q. rw (le-leb 1 (value (b ∷ (c ∷ cs))) (above_zero b (c ∷ cs) e q), e, q) (and-true (all_digits (c ∷ cs)))))
    (λ e. rw e)

-- a number of several digits: a digit behind a number above 0
number_last : (b : ℕ) (bs : List ℕ) (d : ℕ) → numeral (b ∷ (bs ++ d ∷ [])) ≡ is_digit d && (numeral (b ∷ bs) && leb 1 (value (b ∷ bs)))
unfolding agree
number_last b bs d =
    more_digits bs ∙ ap (λ (p : Bool). is_digit b && (not (eqb b 48) && p)) (all_last is_digit bs d)
    ∙ by_cases 4 (λ p q r t. p && (q && (r && t))) (λ p q r t. t && (p && (q && r))) refl
    (is_digit b) (not (eqb b 48)) (all_digits bs) (is_digit d)
    ∙ ap (λ (p : Bool). is_digit d && p) (sym (positive b bs))
  where
    more_digits : (cs : List ℕ) → numeral (b ∷ (cs ++ d ∷ [])) ≡ is_digit b && (not (eqb b 48) && all_digits (cs ++ d ∷ []))
    more_digits [] = refl
    more_digits (c ∷ cs) = refl

-- a digit may follow on blanks, and on a number above 0
abbrev goes_on : List ℕ → Bool
goes_on xs = are_blanks xs || (well_formed xs && leb 1 (value xs))

-- a well_formed field: a digit behind what goes on
formed_last : (xs : List ℕ) (d : ℕ) → well_formed (xs ++ d ∷ []) ≡ is_digit d && goes_on xs
formed_last [] d =
    either (eqb d blank)
    (λ q. rw (eqb-true d 32 q))
    (λ q. rw q (sym (and-true (is_digit d))))
formed_last (b ∷ bs) d =
    either (eqb b blank)
    (λ q. rw (value_blank b bs q, q) (formed_last bs d))
    (λ q. rw q (number_last b bs d))

blanks_unformed : (xs : List ℕ) → are_blanks xs ≡ true → well_formed xs ≡ false
blanks_unformed [] p = refl
blanks_unformed (b ∷ bs) p =
    rw (and_left (eqb b blank) (are_blanks bs) p) (blanks_unformed bs (and_right (eqb b blank) (are_blanks bs) p))

-- ## A field is well formed and has the value n just where it is `spell` of n

are_all_blanks : (k : ℕ) → are_blanks (replicate k blank) ≡ true
are_all_blanks zero = refl
are_all_blanks (suc k) = are_all_blanks k

blanks_are_all : (xs : List ℕ) → are_blanks xs ≡ true → xs ≡ replicate (length xs) blank
blanks_are_all [] p = refl
blanks_are_all (b ∷ bs) p =
    ap₂ (λ (x : ℕ) (l : List ℕ). x ∷ l) (eqb-true b 32 (and_left (eqb b blank) (are_blanks bs) p))
    (blanks_are_all bs (and_right (eqb b blank) (are_blanks bs) p))

-- What is spelled, where it fits its field, is well formed and has the value that was spelled.
pub record Spelled (n : ℕ) (bytes : List ℕ) : Type 0 where
  pub formed : well_formed bytes ≡ true
  pub valued : value bytes ≡ n

one_digit : (width n : ℕ) → n < 10 → Spelled n (replicate width blank ++ ((48 + n) ∷ []))
one_digit width n h =
    let d : is_digit (48 + n) ≡ true = inside 48 (48 + n) 57 (omega arith) (omega arith) in
    let blanks = are_all_blanks width in
    let none = value_blanks (replicate width blank) blanks in
    record {
      formed = rw (formed_last (replicate width blank) (48 + n), blanks, d);
      valued = rw (value_last (replicate width blank) (48 + n), none, d) (omega arith);
    }

one_more : (bytes : List ℕ) (n : ℕ) → 10 ≤ n → Spelled (n / 10) bytes → Spelled n (bytes ++ ((48 + n % 10) ∷ []))
one_more bytes n h s =
    let d : is_digit (48 + n % 10) ≡ true = inside 48 (48 + n % 10) 57 (omega arith) (omega arith) in
    let some : leb 1 (n / 10) ≡ true = le-leb 1 (n / 10) (omega arith) in
    record {
      formed = rw (formed_last bytes (48 + n % 10), s.formed, s.valued, some, d) (or-true (are_blanks bytes));
      valued = rw (value_last bytes (48 + n % 10), s.valued, d) (omega arith);
    }

room_before : (width n : ℕ) → 10 ≤ n → n < 10 ^ suc width → 1 ≤ width
room_before zero n h fits = absurd (omega arith)
room_before (suc width) n h fits = omega arith

pub spelled_is_field : (width n : ℕ) → 1 ≤ width → n < 10 ^ width → Spelled n (spell width n)
spelled_is_field zero n h fits = absurd (omega arith)
spelled_is_field (suc width) n h fits =
    either (leb 10 n)
    (λ q.
    let long : 10 ≤ n = leb-true 10 n q in
    rw (spell_long width n long)
    (one_more (spell width (n / 10)) n long
    (spelled_is_field width (n / 10) (room_before width n long fits) (omega (arith, pow-suc 10 width)))))
    (λ q. let short : n < 10 = leb-false 10 n q in rw (spell_short width n short) (one_digit width n short))

-- what is so for a field of one digit, and with a field above 0 for one that is longer by a digit, is so for every well_formed field
by_last_digit :
    (P : List ℕ → Type 0) → ((xs : List ℕ) (d : ℕ) → are_blanks xs ≡ true → is_digit d ≡ true → P (xs ++ d ∷ [])) →
    ((xs : List ℕ) (d : ℕ) → 1 ≤ value xs → is_digit d ≡ true → P xs → P (xs ++ d ∷ [])) →
    (bytes : List ℕ) → well_formed bytes ≡ true → P bytes
by_last_digit P one more = from_last (λ bytes. well_formed bytes ≡ true → P bytes) (λ p. clash p refl) step
  where
    step : (xs : List ℕ) (d : ℕ) → (well_formed xs ≡ true → P xs) → well_formed (xs ++ d ∷ []) ≡ true → P (xs ++ d ∷ [])
    step xs d so-before p =
        let both : is_digit d && goes_on xs ≡ true = sym (formed_last xs d) ∙ p in
        let e : is_digit d ≡ true = and_left (is_digit d) (goes_on xs) both in
        either (are_blanks xs)
        (λ q. one xs d q e)
        (λ q.
        let number : well_formed xs && leb 1 (value xs) ≡ true = rw q at (and_right (is_digit d) (goes_on xs) both) in
        more xs d (leb-true 1 (value xs) (and_right (well_formed xs) (leb 1 (value xs)) number)) e
        (so-before (and_left (well_formed xs) (leb 1 (value xs)) number)))

-- a well_formed field is what its value spells at its width
pub field_is_spelled : (bytes : List ℕ) → well_formed bytes ≡ true → bytes ≡ spell (length bytes) (value bytes)
field_is_spelled = by_last_digit (λ bytes. bytes ≡ spell (length bytes) (value bytes)) one more
  where
    one : (xs : List ℕ) (d : ℕ) → are_blanks xs ≡ true → is_digit d ≡ true → xs ++ d ∷ [] ≡ spell (length (xs ++ d ∷ [])) (value (xs ++ d ∷ []))
    one xs d q e =
        let range = digit_is d e in
        let d-is : 48 + (d - 48) ≡ d = omega arith in
        rw (length_last xs d, value_last xs d, value_blanks xs q, e, zero-add (d - 48), spell_short (length xs) (d - 48) (omega arith), d-is)
        (ap (λ (l : List ℕ). l ++ d ∷ []) (blanks_are_all xs q))

    more : (xs : List ℕ) (d : ℕ) → 1 ≤ value xs → is_digit d ≡ true → xs ≡ spell (length xs) (value xs) →
        xs ++ d ∷ [] ≡ spell (length (xs ++ d ∷ [])) (value (xs ++ d ∷ []))
    more xs d h e s =
        let range = digit_is d e in
        let next : ℕ = value xs * 10 + (d - 48) in
        let front : next / 10 ≡ value xs = omega arith in
        let last : 48 + next % 10 ≡ d = omega arith in
        rw (length_last xs d, value_last xs d, e, spell_long (length xs) next (omega arith), front, last) (ap (λ (l : List ℕ). l ++ d ∷ []) s)

-- and the value is one that fits the width
pub value_bound : (bytes : List ℕ) → well_formed bytes ≡ true → value bytes < 10 ^ length bytes
value_bound = by_last_digit (λ bytes. value bytes < 10 ^ length bytes) one (λ xs d h. more xs d)
  where
    more : (xs : List ℕ) (d : ℕ) → is_digit d ≡ true → value xs < 10 ^ length xs → value (xs ++ d ∷ []) < 10 ^ length (xs ++ d ∷ [])
    more xs d e fits =
        let range = digit_is d e in
        rw (value_last xs d, e, length_last xs d, pow-suc 10 (length xs)) (omega arith)

    one : (xs : List ℕ) (d : ℕ) → are_blanks xs ≡ true → is_digit d ≡ true → value (xs ++ d ∷ []) < 10 ^ length (xs ++ d ∷ [])
    one xs d q e = more xs d e (omega (arith, value_blanks xs q, one-le-pow (length xs) 10 (omega arith)))

-- a field is well formed and has the value n just where it is `spell` of n at its width
pub just_spelled :
    (width n : ℕ) (bytes : List ℕ) →
    ((length bytes ≡ width) × (well_formed bytes ≡ true) × (value bytes ≡ n)) ↔ ((1 ≤ width) × (n < 10 ^ width) × (bytes ≡ spell width n))
just_spelled width n bytes = (there, back)
  where
    filled : (bs : List ℕ) → well_formed bs ≡ true → 1 ≤ length bs
    filled [] p = clash p refl
    filled (b ∷ bs) p = omega arith

    there :
        (length bytes ≡ width) × (well_formed bytes ≡ true) × (value bytes ≡ n) →
        (1 ≤ width) × (n < 10 ^ width) × (bytes ≡ spell width n)
    there h =
        rw (← h.0, ← h.2) (filled bytes h.1, value_bound bytes h.1, field_is_spelled bytes h.1)

    back :
        (1 ≤ width) × (n < 10 ^ width) × (bytes ≡ spell width n) →
        (length bytes ≡ width) × (well_formed bytes ≡ true) × (value bytes ≡ n)
    back h =
        let s = spelled_is_field width n h.0 h.1 in
        rw h.2 (length_spell width n, s.formed, s.valued)

-- ## Reading from the left, with the value so far

-- ten times the value so far, plus the digit, is the value by places
one_column : (columns : List ℕ) (byte : ℕ) → scan_byte (reached columns) byte ≡ reached (columns ++ byte ∷ [])
one_column columns byte =
    rw (all_last (λ b. eqb b blank) columns byte, formed_last columns byte, value_last columns byte)
    (either (are_blanks columns)
    (λ p.
    rw (p, value_blanks columns p)
    (either (is_digit byte) (λ e. rw (e, zero-add (byte - 48))) (λ e. rw e)))
    (λ p.
    either (well_formed columns)
    (λ q. rw (p, q) (either (is_digit byte) (λ e. rw (e, and-true (leb 1 (value columns)))) (λ e. rw (e, and-false (leb 1 (value columns))))))
    (λ q. rw (p, q, and-false (is_digit byte)))))

-- one column more is read by `scan_byte`
pub scanned_more : (columns : List ℕ) (byte : ℕ) → scanned (columns ++ byte ∷ []) ≡ scan_byte (scanned columns) byte
scanned_more columns byte = foldl-append scan_byte Blanks columns (byte ∷ [])

-- so the columns, read one after the other, lead where their digits and places say
scanned_reached : (columns : List ℕ) → scanned columns ≡ reached columns
scanned_reached = from_last (λ columns. scanned columns ≡ reached columns) refl one_more_read
  where
    one_more_read : (xs : List ℕ) (b : ℕ) → scanned xs ≡ reached xs → scanned (xs ++ b ∷ []) ≡ reached (xs ++ b ∷ [])
    one_more_read xs b h = scanned_more xs b ∙ ap (λ (s : Scan). scan_byte s b) h ∙ one_column xs b

-- what begins with columns that are neither blanks nor a field is no field
stays_broken : (front rest : List ℕ) → are_blanks front ≡ false → well_formed front ≡ false → well_formed (front ++ rest) ≡ false
stays_broken front [] p q = rw (append-nil front) q
stays_broken front (b ∷ bs) p q =
    rw (← (append_assoc front (b ∷ []) bs))
    (stays_broken (front ++ b ∷ []) bs (rw (all_last (λ c. eqb c blank) front b, p))
    (rw (formed_last front b, p, q) (and-false (is_digit b))))

-- so after k columns of an accepted field the value so far is that of the digits among them
reached_value : (field : List ℕ) (k : ℕ) → well_formed field ≡ true → so_far (reached (take k field)) ≡ value (take k field)
reached_value field k formed =
    let front = take k field in
    either (are_blanks front)
    (λ p. rw p (sym (value_blanks front p)))
    (λ p.
    either (well_formed front)
    (λ q. rw (p, q))
    (λ q. clash formed (rw (take-append-drop k field) at (stays_broken front (drop k field) p q))))

reached_field : (field : List ℕ) → finish (reached field) ≡ (if well_formed field then Some (value field) else None)
reached_field field =
    either (are_blanks field)
    (λ p. rw (p, blanks_unformed field p))
    (λ p. either (well_formed field) (λ q. rw (p, q)) (λ q. rw (p, q)))

-- the value of eight columns leaves room for one digit more in 32 bits
reached_fits : (columns : List ℕ) → length columns ≤ 8 → so_far (reached columns) * 10 + 9 ≤ 4294967295
reached_fits columns h =
    either (are_blanks columns)
    (λ p. rw p (omega arith))
    (λ p.
    either (well_formed columns)
    (λ q.
    let most : 10 ^ length columns ≤ 10 ^ 8 = pow-le-pow_right (omega arith) h in
    rw (p, q) (omega (arith, value_bound columns q)))
    (λ q. rw (p, q) (omega arith)))

pub scanned_fits : (columns : List ℕ) → length columns ≤ 8 → so_far (scanned columns) * 10 + 9 ≤ 4294967295
scanned_fits columns h = rw (scanned_reached columns) (reached_fits columns h)

pub running_value : RunningValue
running_value =
    record {
      by_places = scanned_reached;
      digits_read = digits_read;
      over_blanks = λ field k formed p. digits_read field k formed ∙ value_blanks (take k field) p;
      as_before = λ field. ap finish (scanned_reached field) ∙ reached_field field;
    }
  where
    digits_read : (field : List ℕ) (k : ℕ) → well_formed field ≡ true → so_far (scanned (take k field)) ≡ value (take k field)
    digits_read field k formed = ap so_far (scanned_reached (take k field)) ∙ reached_value field k formed

-- what the code reads is what the field holds
pub scanned_is_field : (bytes : List ℕ) → length bytes ≤ widest → finish (scanned bytes) ≡ field_of bytes
scanned_is_field bytes h = rw (le-leb (length bytes) 9 h) (running_value.as_before bytes)

pub too_wide : (bytes : List ℕ) → widest < length bytes → field_of bytes ≡ None
too_wide bytes h = rw (lt-leb (length bytes) 9 h)
