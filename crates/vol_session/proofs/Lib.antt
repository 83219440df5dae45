pub mod BegunWell
pub mod BornBefore
mod ComposedWorks
mod DueEvents
mod FlushFlags
pub mod FoundAgain
pub mod FreshRuns
pub mod GoodMarks
pub mod JoinedPlaces
mod JournalFalls
pub mod JournalStops
pub mod LaterForests
pub mod MarkParts
pub mod MarkedEntries
pub mod MovedMarks
pub mod NextEntries
mod NodesFall
pub mod NumbersKept
pub mod NumbersLeft
pub mod NumbersStepped
pub mod SafeRuns
pub mod SessionInvariant
mod StageProgress
pub mod Surviving
pub mod SurvivingAcks
pub mod SurvivingBases
pub mod SurvivingFiles
pub mod Unacknowledged
pub mod UncommittingEvents
mod WorkStages
pub mod WriterKept
