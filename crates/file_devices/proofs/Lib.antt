mod DeviceCalls
mod FileCalls
mod OpenedFiles
mod Recalling
