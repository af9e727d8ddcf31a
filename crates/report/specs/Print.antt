-- What is printed: fields justified and filled as in the log, each line ended by a line feed.
-- Assumes nothing.
use Rattle.std.specs.Prelude.{ℕ, ◌+◌, ◌*◌, List, [], ◌∷◌, ◌++◌, leb, length, replicate, if◌then◌else◌}
use Rattle.fields.specs.Field.{blank, line_feed, spell}
use Rattle.base.specs.Lists.{flat_map}
use Rattle.pruning.specs.Question.{Question, trace_count, fulfilments, activations}
use Rattle.discovery.specs.Listing.{listed, replayed, events_read}

-- ## A refusal prints its number in columns 1 to 2 and the detail in 3 to 8

abbrev pub number_width : ℕ
number_width = 2

abbrev pub detail_width : ℕ
detail_width = 6

abbrev pub refusal_line_size : ℕ
refusal_line_size = number_width + detail_width + 1

unfoldable pub refusal_line : ℕ → ℕ → List ℕ
refusal_line number detail = spell number_width number ++ spell detail_width detail ++ line_feed ∷ []

-- ## The first line is constraints, replayed, traces (6 columns each), and in columns 19 to 28 the events read

abbrev pub first_width : ℕ
first_width = 6

abbrev pub read_width : ℕ
read_width = 10

abbrev pub first_line_size : ℕ
first_line_size = 3 * first_width + read_width + 1

unfoldable pub first_line : ℕ → ℕ → ℕ → ℕ → List ℕ
first_line constraints replayed traces read =
    spell first_width constraints ++ spell first_width replayed ++ spell first_width traces ++ spell read_width read ++ line_feed ∷ []

-- ## Then template (2), a (3), b (3, blank for 1 to 8), count (5), and in columns 14 to 18 the activated traces

abbrev pub template_width : ℕ
template_width = 2

abbrev pub activity_width : ℕ
activity_width = 3

abbrev pub count_width : ℕ
count_width = 5

abbrev pub constraint_line_size : ℕ
constraint_line_size = template_width + 2 * activity_width + 2 * count_width + 1

abbrev pub second_field : ℕ → ℕ → List ℕ
second_field template b = if leb template 8 then replicate activity_width blank else spell activity_width b

unfoldable pub constraint_line : ℕ → ℕ → ℕ → ℕ → ℕ → List ℕ
constraint_line template a b fulfilled activated =
    spell template_width template ++ spell activity_width a ++ second_field template b
    ++ spell count_width fulfilled ++ spell count_width activated ++ line_feed ∷ []

-- the report of a find
unfoldable pub found_text : Question → List ℕ
unfolding first_line constraint_line
found_text q =
    first_line (length (listed q)) (length (replayed q)) (trace_count q) (events_read q (replayed q))
    ++ flat_map (listed q) λ c. constraint_line c.template c.a c.b (fulfilments q.traces c) (activations q.traces c)
