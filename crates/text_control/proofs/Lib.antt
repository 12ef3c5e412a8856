mod Related
