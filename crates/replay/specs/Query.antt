-- What a query asks.
-- Assumes nothing.
use Rattle.eventlog.specs.SoundStore.{traces_in}
use Rattle.replay.specs.declared.query.Query.{Query}
use Rattle.pruning.specs.Question.{Question, question_over}

abbrev pub asked_by : Query → Question
asked_by query = question_over query.measure.activities (traces_in query.kept) query.measure.settings
