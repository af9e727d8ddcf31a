-- The settings line: what its three fields set.
-- Assumes nothing.
use Prim.Native.Nat.{ℕ, ◌+◌, ◌≤◌, ◌<◌}
use native.Mathlib.Omega.{arith}
use mathlib.Core.Path.{◌≡◌, refl, sym, ap}
use mathlib.Core.Bool.{Bool, true, false, ◌&&◌, and-false}
use mathlib.Core.List.{List}
use borrow.Author.Tests.{leb-true, le-leb, lt-leb}
use lib.Dec.{eqb, leb}
use lib.ListN.{length, get_or, take, drop}
use lib.Seq.{slice, length-slice}
use Rattle.std.specs.Prelude.{if◌then◌else◌, Option, Some, None}
use Rattle.base.proofs.Bools.{and_left, either}
use Rattle.base.proofs.Lists.{take_drop}
use Rattle.fields.specs.Field.{line_feed, well_formed, value, widest, field_of}
use Rattle.pruning.specs.declared.Settings.{Settings}
use Rattle.report.specs.declared.SettingsLine.{SettingsLine}
use Rattle.report.specs.Report.{settings_line_size, settings_laid_out, activities_set, settings_set}
use Rattle.report.specs.Stages.{settings_of}

pub cut_short : (input : List ℕ) → length input < settings_line_size → settings_of input ≡ None
unfolding settings_laid_out
cut_short input h = rw (lt-leb settings_line_size (length input) h)

pub no_line_feed : (input : List ℕ) → eqb (get_or input 11 0) line_feed ≡ false → settings_of input ≡ None
unfolding settings_laid_out
no_line_feed input h = rw (h, and-false)

-- ## Three fields and a line feed

abbrev line : ℕ → ℕ → ℕ → SettingsLine
line n threshold confidence = record { activities = n; settings = record { threshold = threshold; confidence = confidence } }

abbrev pub all_set : Option ℕ → Option ℕ → Option ℕ → Option SettingsLine
all_set (Some n) (Some threshold) (Some confidence) = Some (line n threshold confidence)
all_set (Some n) (Some threshold) None = None
all_set (Some n) None confidence = None
all_set None threshold confidence = None

all_by :
    (p q r : Bool) (n threshold confidence : ℕ) →
    all_set (if p then Some n else None) (if q then Some threshold else None) (if r then Some confidence else None)
    ≡ (if p && q && r && true then Some (line n threshold confidence) else None)
all_by true true true n threshold confidence = refl
all_by true true false n threshold confidence = refl
all_by true false r n threshold confidence = refl
all_by false q r n threshold confidence = refl

-- a part of the line is no wider than a field can be
narrow : (from to : ℕ) (input : List ℕ) → from ≤ to → to ≤ length input → to ≤ from + widest → leb (length (slice from to input)) widest ≡ true
narrow from to input rises long few = le-leb (length (slice from to input)) widest (omega (arith, length-slice from to input long))

pub fields_set :
    (input : List ℕ) → settings_line_size ≤ length input → eqb (get_or input 11 0) line_feed ≡ true →
    all_set (field_of (take 3 input)) (field_of (take 4 (drop 3 input))) (field_of (take 4 (drop 7 input))) ≡ settings_of input
unfolding settings_laid_out activities_set settings_set
fields_set input long feed =
    rw (
      take_drop 3 4 input,
      take_drop 7 4 input,
      le-leb settings_line_size (length input) long,
      feed,
      narrow 0 3 input (omega arith) (omega arith) (omega arith),
      narrow 3 7 input (omega arith) (omega arith) (omega arith),
      narrow 7 11 input (omega arith) (omega arith) (omega arith),
    )
    (all_by (well_formed (slice 0 3 input)) (well_formed (slice 3 7 input)) (well_formed (slice 7 11 input)) (value (slice 0 3 input))
    (value (slice 3 7 input)) (value (slice 7 11 input)))

-- ## What the settings say of the line

pub record LaidOut (input : List ℕ) (n : ℕ) (settings : Settings) : Type 0 where
  pub laid_out : settings_laid_out input ≡ true
  pub long : settings_line_size ≤ length input
  pub activities : n ≡ activities_set input
  pub settings_are : settings ≡ settings_set input

long_enough : (input : List ℕ) → settings_laid_out input ≡ true → settings_line_size ≤ length input
unfolding settings_laid_out
long_enough input h =
    leb-true settings_line_size (length input)
    (and_left _ (well_formed (slice 0 3 input))
    (and_left _ (well_formed (slice 3 7 input))
    (and_left _ (well_formed (slice 7 11 input)) (and_left _ (eqb (get_or input 11 0) line_feed) h))))

pub set_by : {input : List ℕ} {line : SettingsLine} → settings_of input ≡ Some line → LaidOut input line.activities line.settings
set_by {input} {line} e =
    either (settings_laid_out input)
    (λ h.
    let set = rw h at e in
    let same : record { activities = activities_set input; settings = settings_set input } ≡ line = cc in
    record {
      laid_out = h;
      long = long_enough input h;
      activities = sym (ap (λ (l : SettingsLine). l.activities) same);
      settings_are = sym (ap (λ (l : SettingsLine). l.settings) same);
    })
    (λ h. absurd (cc (rw h at e)))

pub malformed_by : (input : List ℕ) → settings_of input ≡ None → settings_laid_out input ≡ false
malformed_by input e = either (settings_laid_out input) (λ h. cc (rw h at e)) (λ h. h)
