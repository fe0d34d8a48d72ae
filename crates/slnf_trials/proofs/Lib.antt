mod LaneCounts
