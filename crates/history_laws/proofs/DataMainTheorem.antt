-- The main theorem's statements on data.
use Rattle.model.specs.{ImagesAreRead, NewestIsTheHistorys, StampsFullAfterAllChanges, TakenInHistory, VersionReadsAreUnoverlapped, VersionsAreWholeOutside, past_of}
use Rattle.model.proofs.Width.{is_good}
use Rattle.history_laws.proofs.DataAlways.{data_of}
use Rattle.history_laws.proofs.Given.{given_before}
use Rattle.history_laws.proofs.ImageReads.{images_are_read}
use Rattle.history_laws.proofs.NewestHeld.{newest_is_the_historys}
use Rattle.history_laws.proofs.TrueMarks.{stamps_full, taken_in_history}
use Rattle.history_laws.proofs.VersionReads.{nobody, version_read_unoverlapped, whole_outside}

pub taken : TakenInHistory
taken s ok events event e given is k r there = taken_in_history s (is_good s ok) events event e is (data_of s ok events (given_before s event events given)) k r there

pub unoverlapped : VersionReadsAreUnoverlapped
unoverlapped s ok events event e is a access version ends = version_read_unoverlapped s (is_good s ok) events event e is a access version ends

pub images : ImagesAreRead
images s ok events event e given is a access image ends last = images_are_read s (is_good s ok) events event e is (data_of s ok events (given_before s event events given)) a access image ends last

pub full : StampsFullAfterAllChanges
full s ok events event e given is there = stamps_full s (is_good s ok) events event e is (data_of s ok events (given_before s event events given)) there

pub newest : NewestIsTheHistorys
newest s ok events given none = newest_is_the_historys s (is_good s ok) events (data_of s ok events given) none

pub whole : VersionsAreWholeOutside
whole s ok events none a version = whole_outside s (is_good s ok) events (nobody s (past_of s events) none) a version
